-- Defines the output for a page of changes, given the form in which the program stores the page.
use Rattle.std.specs.Prelude.{ℕ, Bool, List, map, string_bytes}
use Rattle.journal_lines.specs.Lists.{leaves_view}
use Rattle.journal_responses.specs.Pages.{page_by}
use Rattle.journal_responses.specs.declared.page.Page.{Page}

-- The output for a stored page of changes.
abbrev pub page_text : Bool → Page → List ℕ
page_text several page = page_by several (map leaves_view page.rows.items, (string_bytes page.last, string_bytes page.pending))
