-- Additions with no hidden character, one after another.
use Rattle.proof_prelude.proofs.{◌≡◌, ℕ, List, [], ◌∷◌, ◌++◌, refl, sym, ap, ◌∙◌, append_assoc, append-nil, codes, encode_utf8_all, encodes-append, list_any-append, or_from, Result, Ok, Err, OnOk}
use Rattle.visible_text.specs.{IsSeen, is_hidden, quoted, visible}
use Rattle.visible_text.proofs.{seen_quoted, seen_visible}
use Rattle.error_messages.specs.Told.{AddsSeen, IsTold, beginning}

pub seen_none : (old : List ℕ) → AddsSeen old old
seen_none old = ([], refl, sym (append-nil old))

pub adds_visible : {E : Type 0} (r : Result Unit E) (old new cs : List ℕ) → OnOk r (new ≡ old ++ encode_utf8_all (visible cs)) → OnOk r (AddsSeen old new)
adds_visible (Ok x) old new cs e = (visible cs, seen_visible cs, e)
adds_visible (Err e') old new cs e = tt

pub adds_quoted : {E : Type 0} (r : Result Unit E) (old new cs : List ℕ) → OnOk r (new ≡ old ++ encode_utf8_all (quoted cs)) → OnOk r (AddsSeen old new)
adds_quoted (Ok x) old new cs e = (quoted cs, seen_quoted cs, e)
adds_quoted (Err e') old new cs e = tt

pub seen_trans : (old a new : List ℕ) → AddsSeen old a → AddsSeen a new → AddsSeen old new
seen_trans old a new (more, seen, is) (last, seen', is') = (
  more ++ last,
  list_any-append is_hidden more last ∙ or_from _ _ seen seen',
  is' ∙ (ap (λ t. t ++ encode_utf8_all last) is ∙ (append_assoc old (encode_utf8_all more) (encode_utf8_all last) ∙ ap (λ t. old ++ t) (sym (encodes-append more last)))),
)

pub seen_then : {E : Type 0} (r : Result Unit E) (old a new : List ℕ) → AddsSeen old a → OnOk r (AddsSeen a new) → OnOk r (AddsSeen old new)
seen_then (Err e) old a new f g = tt
seen_then (Ok x) old a new f g = seen_trans old a new f g

pub told_by : {E : Type 0} (r : Result Unit E) (number : ℕ) (name old a b new : List ℕ) → a ≡ old ++ beginning number name → AddsSeen a b → OnOk r (new ≡ b ++ codes "\n") → OnOk r (IsTold number name old new)
told_by (Err e) number name old a b new f g h = tt
told_by (Ok x) number name old a b new f (reason, seen, is) h =
    (reason, seen, h ∙ ap (λ t. t ++ codes "\n") (is ∙ ap (λ t. t ++ encode_utf8_all reason) f))
