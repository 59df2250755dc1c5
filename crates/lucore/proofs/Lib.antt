mod RankOrders
mod Whole
mod Reported
