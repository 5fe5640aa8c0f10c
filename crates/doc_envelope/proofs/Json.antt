-- Whether a text is JSON, by its two tests.
use Rattle.proof_prelude.proofs.{◌≡◌, ℕ, List, Bool, true, false, ◌&&◌, Result, IfOk, Ok, Err, Option, Some, None, IsTrue, IsSome, is_some, ◌↔◌, refl, sym, ap, ◌∙◌, IsUtf8, is_utf8, IsUtf8-from_is_utf8, is_utf8-from_IsUtf8, false_from_ne_true}
use Rattle.json.specs.Json.{Json, document}
use Rattle.doc_envelope.specs.{is_json}

-- bytes that are not UTF-8 are not JSON
pub no_utf8 : (text : List ℕ) → (IsUtf8 text → ⊥) → false ≡ is_json text
no_utf8 text h = sym (ap (λ b. b && is_some (document text)) (false_from_ne_true (is_utf8 text) (λ e. h (IsUtf8-from_is_utf8 text e))))

same_test : (b : Bool) (o : Option Json) → IsTrue b ↔ IsSome o → b ≡ is_some o
same_test true None h = sym (h.0 refl)
same_test true (Some x) h = refl
same_test false None h = refl
same_test false (Some x) h = h.1 refl

-- UTF-8 bytes are JSON if they are a JSON text
pub utf8 : {E : Type 0} (bytes text : List ℕ) (r : Result Bool E) → text ≡ bytes → IsUtf8 bytes
    → IfOk r (λ b. IsTrue b ↔ IsSome (document text)) → IfOk r (λ b. b ≡ is_json bytes)
utf8 bytes text (Ok b) same u h =
    same_test b (document text) h ∙ ap (λ t. is_some (document t)) same
    ∙ sym (ap (λ c. c && is_some (document bytes)) (is_utf8-from_IsUtf8 bytes u))
utf8 bytes text (Err e) same u h = tt
