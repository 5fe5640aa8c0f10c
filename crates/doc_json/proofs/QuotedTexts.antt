-- A string that needs no escapes is quoted unchanged.
use Rattle.proof_prelude.proofs.{◌≡◌, ℕ, Bool, true, Result, Ok, Err, ◌-◌, ◌++◌, List, [], ◌∷◌, length, take, drop, sym, ap, ◌∙◌, arith, OnOk, prefix_len, take_all}
use Rattle.json_values.specs.{PlainIf}
use Rattle.json.specs.Print.{escape, quoted}
use Rattle.json.specs.Run.{is_plain}
use Rattle.json.proofs.Printed.Strings.{escape_to_stop, escape_end}

pub quoted_plain : (d : List ℕ) → prefix_len is_plain d ≡ length d → 34 ∷ (d ++ 34 ∷ []) ≡ quoted d
quoted_plain d plain =
    let close = 34 ∷ [] in
    let whole : take (length d - 0) (drop 0 d) ≡ d = take_all _ d (omega arith) in
    let body : escape d ++ close ≡ d ++ close = escape_to_stop d 0 (length d) close (omega (arith, plain)) ∙ ap (λ l. take (length d - 0) (drop 0 d) ++ l) (escape_end d (length d) close (omega arith)) ∙ ap (λ l. l ++ close) whole in
    ap (λ l. 34 ∷ l) (sym body)

-- a string that needs no escapes and was appended unchanged in quotation marks is quoted
pub standing_quoted : {A E : Type 0} (r : Result A E) (out new d : List ℕ) → prefix_len is_plain d ≡ length d → OnOk r (new ≡ out ++ 34 ∷ (d ++ 34 ∷ [])) → OnOk r (new ≡ out ++ quoted d)
standing_quoted (Ok a) out new d plain is = is ∙ ap (λ l. out ++ l) (quoted_plain d plain)
standing_quoted (Err e) out new d plain is = is

-- the same, for a string that may need escapes
pub known_quoted : {A E : Type 0} (r : Result A E) (out new d : List ℕ) (is_plain : Bool) → is_plain ≡ true → OnOk r (new ≡ out ++ 34 ∷ (d ++ 34 ∷ [])) → OnOk r (PlainIf is_plain d → new ≡ out ++ quoted d)
known_quoted (Ok a) out new d is_plain known is = λ plain. is ∙ ap (λ l. out ++ l) (quoted_plain d (plain known))
known_quoted (Err e) out new d is_plain known is = is
