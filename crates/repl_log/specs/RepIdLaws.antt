-- Lemmas for dependent crates: two replication ids are equal if and only if `same_rep` is true for the two ids.
use Rattle.std.proofs.Common.{◌≡◌, Bool, true, Some, None, refl, ap}
use Rattle.std.specs.Prelude.{nat_eq}
use Rattle.std.specs.Option.{option_eq}
use Rattle.std.specs.Cmp.Lexicographic.{pointwise, pointwise_decides, bytes_decides}
use Rattle.std.proofs.lemmas.Bool.{and_parts, and_from, eq-eqb, eqb-true, false≢true}
use Rattle.doc_json.specs.Chosen.{Choice}
use Rattle.repl_log.specs.declared.replication.RepId.{RepId}
use Rattle.repl_log.specs.RepId.{same_rep}

abbrev same_test : Choice → Choice → Bool
same_test a b = option_eq (pointwise (pointwise nat_eq)) a b

same_choice : (a b : Choice) → same_test a b ≡ true → a ≡ b
same_choice None None e = refl
same_choice None (Some ys) e = absurd (false≢true e)
same_choice (Some xs) None e = absurd (false≢true e)
same_choice (Some xs) (Some ys) e = ap Some ((pointwise_decides bytes_decides xs ys).0 e)

same_choice-self : (c : Choice) → same_test c c ≡ true
same_choice-self None = refl
same_choice-self (Some ids) = (pointwise_decides bytes_decides ids ids).1 refl

pub same_rep-self : (a : RepId) → same_rep a a ≡ true
same_rep-self a = and_from _ _ (eq-eqb a.source a.source refl) (and_from _ _ (eq-eqb a.target a.target refl) (same_choice-self a.chosen))

pub same_rep-is : (a b : RepId) → same_rep a b ≡ true → a ≡ b
same_rep-is a b e =
    let k = and_parts _ _ e in
    let m = and_parts _ _ k.1 in
    let source : a.source ≡ b.source = eqb-true _ _ k.0 in
    let target : a.target ≡ b.target = eqb-true _ _ m.0 in
    let chosen : a.chosen ≡ b.chosen = same_choice a.chosen b.chosen m.1 in
    λ i. record { source = source i; target = target i; chosen = chosen i }
