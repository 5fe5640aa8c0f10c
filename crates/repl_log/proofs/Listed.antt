-- The texts of entries, separated by commas.
use Rattle.proof_prelude.proofs.{◌≡◌, ℕ, zero, suc, ◌+◌, nat_lt, Bool, true, false, List, [], ◌∷◌, ◌++◌, map, take, slice_get, Some, refl, sym, ap, ◌∙◌, append_assoc, arith, take_more, none-some, slice_get_within, get_or_from_slice_get, lt-ltb, append-nil}
use Rattle.serde_json.specs.View.{items_of}
use Rattle.serde_json.specs.Written.{compact_text, comma_if, items_text}
use Rattle.repl_log.specs.{EntryValue, entry_json, listed}

abbrev pub entry_text : EntryValue → List ℕ
entry_text e = compact_text (entry_json e)

-- the text of an array of entries, up to its bracket
pub items_text-listed : (later : Bool) (es : List EntryValue) → items_text later (items_of (map entry_json es)) ≡ listed later es ++ 93 ∷ []
items_text-listed later [] = refl
items_text-listed later (e ∷ es) =
    ap (λ l. comma_if later ++ (entry_text e ++ l)) (items_text-listed true es)
    ∙ ap (λ l. comma_if later ++ l) (sym (append_assoc (entry_text e) (listed true es) (93 ∷ [])))
    ∙ sym (append_assoc (comma_if later) (entry_text e ++ listed true es) (93 ∷ []))

later_more : (es : List EntryValue) (e : EntryValue) → listed true (es ++ e ∷ []) ≡ listed true es ++ 44 ∷ entry_text e
later_more [] e = ap (λ l. 44 ∷ l) (append-nil (entry_text e))
later_more (x ∷ es) e = ap (λ l. 44 ∷ (entry_text x ++ l)) (later_more es e) ∙ ap (λ l. 44 ∷ l) (sym (append_assoc (entry_text x) (listed true es) (44 ∷ entry_text e)))

-- one more entry, after a comma if it is not the first
pub listed_more : (es : List EntryValue) (i : ℕ) (e : EntryValue) → slice_get es i ≡ Some e → listed false (take (i + 1) es) ≡ listed false (take i es) ++ (comma_if (nat_lt 0 i) ++ entry_text e)
listed_more es i e is = ap (listed false) (next es i is) ∙ go es i is
  where
    next : (es : List EntryValue) (i : ℕ) → slice_get es i ≡ Some e → take (i + 1) es ≡ take i es ++ e ∷ []
    next es i is = take_more es i e (slice_get_within es i e is) ∙ ap (λ (y : EntryValue). take i es ++ y ∷ []) (get_or_from_slice_get es i e e is)

    go : (es : List EntryValue) (i : ℕ) → slice_get es i ≡ Some e → listed false (take i es ++ e ∷ []) ≡ listed false (take i es) ++ (comma_if (nat_lt 0 i) ++ entry_text e)
    go es zero is = append-nil (entry_text e)
    go [] (suc i) is = absurd (none-some e is)
    go (x ∷ es) (suc i) is = ap (λ l. entry_text x ++ l) (later_more (take i es) e) ∙ sym (append_assoc (entry_text x) (listed true (take i es)) (44 ∷ entry_text e))
        ∙ ap (λ b. (entry_text x ++ listed true (take i es)) ++ (comma_if b ++ entry_text e)) (sym (lt-ltb 0 (suc i) (omega arith)))
