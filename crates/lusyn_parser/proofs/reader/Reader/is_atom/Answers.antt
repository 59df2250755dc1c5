use Rattle.lusyn_parser.proofs.Atoms.{alone-name, alone-number, alone-true, alone-false}
use Rattle.lusyn_parser.proofs.reader.Reader.is_atom.Goals as goal

pub returns-in-Some-Name : goal.returns-in-Some-Name
returns-in-Some-Name c e depth = let h = c.in-Some-Name.ensures in rw (h.0, c.in-Some-Name.field-0-is) (alone-name _ depth _ _ (c.ends_at.ensures e))

pub returns-in-Some-Number : goal.returns-in-Some-Number
returns-in-Some-Number c e depth = let h = c.in-Some-Number.ensures in rw (h.0, c.in-Some-Number.field-0-is) (alone-number _ depth _ _ (c.ends_at-in-Some-Number.ensures e))

pub returns-in-Some-Fixed-True : goal.returns-in-Some-Fixed-True
returns-in-Some-Fixed-True c e depth = let h = c.in-Some-Fixed-True.ensures in rw (h.0, c.in-Some-Fixed-True.field-0-is, c.in-Some-Fixed-True.field-0-0-is) (alone-true _ depth _ (c.ends_at-in-Some-Fixed-True.ensures e))

pub returns-in-Some-Fixed-False : goal.returns-in-Some-Fixed-False
returns-in-Some-Fixed-False c e depth = let h = c.in-Some-Fixed-False.ensures in rw (h.0, c.in-Some-Fixed-False.field-0-is, c.in-Some-Fixed-False.field-0-0-is) (alone-false _ depth _ (c.ends_at-in-Some-Fixed-False.ensures e))
