-- Defines the values by which contracts describe a formatter (`Wording`).
use Rattle.std.specs.Prelude.{ℕ, List}
use Rattle.response_output.specs.Words.{Words}
use Rattle.response_output.specs.declared.wording.Wording.{Wording}

abbrev pub words_of_wording : Wording → Words
words_of_wording w = record { form = w.form; begins = w.begins.items; id = w.id.items; listed = w.listed; count = w.count; size = w.size; told = w.told }

-- The output of the formatter `w` for the last item.
abbrev pub made_of : Wording → List ℕ
made_of w = w.text.items
