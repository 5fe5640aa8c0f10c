-- Defines the values by which contracts describe the stored buffers of an envelope.
use Rattle.std.specs.Prelude.{◌≡◌, ℕ, List, [], ◌∷◌, ◌++◌, Bool, true}
use Rattle.doc_envelope.specs.Printed.{IsPrinted}
use Rattle.doc_envelope.specs.declared.envelope.Envelope.{Envelope}

abbrev pub made_of : Envelope → List ℕ
made_of e = e.text.items

abbrev pub held_of : Envelope → List ℕ
held_of e = e.held.items

abbrev pub printed_of : Envelope → Bool
printed_of e = e.printed

-- If the flag `printed` of the `Envelope` e is true, e's text with a closing brace is an envelope as the crate `json`
-- prints it.
abbrev pub HasPrintedFront : Envelope → Type 0
HasPrintedFront e = printed_of e ≡ true → IsPrinted (made_of e ++ 125 ∷ [])
