-- How a page begins.
use Rattle.std.specs.Prelude.{Bool, nat_eq}
use Rattle.std.specs.List.{starts_with}
use Rattle.lusdist_shell.specs.Pages.{Page, title_of}

-- its first words are its code and its name
abbrev pub begins_with_title : Page → Bool
begins_with_title page = starts_with nat_eq page.text (title_of page)
