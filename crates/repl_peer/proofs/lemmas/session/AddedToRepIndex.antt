-- The index of replications after adding a session.
use Rattle.proof_prelude.proofs.{◌≡◌, Bool, true, false, cond, List, [], ◌∷◌, ◌++◌, Option, Some, None, refl, sym, ap, ◌∙◌, IsEquivalence, option_map_or, lookup, set_value, lookup-set_value}
use Rattle.rev_tree.specs.{SessionId}
use Rattle.repl_log.specs.declared.replication.RepId.{RepId}
use Rattle.repl_log.specs.{same_rep, same_rep-is, same_rep-self}

same_both : (x y : RepId) (a b : Bool) → same_rep x y ≡ a → same_rep y x ≡ b → a ≡ b
same_both x y true true e f = refl
same_both x y false false e f = refl
same_both x y true false e f = sym (ap (λ (r : RepId). same_rep y r) (same_rep-is x y e) ∙ same_rep-self y) ∙ f
same_both x y false true e f = sym e ∙ ap (λ (r : RepId). same_rep x r) (same_rep-is y x f) ∙ same_rep-self x

pub same_rep_equiv : IsEquivalence same_rep
same_rep_equiv = record {
  refl = same_rep-self;
  symm = λ x y. same_both x y (same_rep x y) (same_rep y x) refl refl;
  congr = λ x y z e. ap (λ (r : RepId). same_rep r z) (same_rep-is x y e);
}

module _ {V : Type 0} (items : V → List SessionId) (es : List (RepId × V)) (rep asked : RepId) where
  abbrev there : Option V → List SessionId
  there o = option_map_or items o []

  abbrev at : RepId → Option V
  at r = lookup (same_rep r) es

  set_at : (v w : V) → at rep ≡ Some v → lookup (same_rep asked) (set_value (same_rep rep) es w) ≡ cond (same_rep rep asked) (Some w) (at asked)
  set_at v w is = lookup-set_value same_rep_equiv (same_rep rep) (λ x y e. ap (λ (r : RepId). same_rep r y) (same_rep-is rep x e)) asked w es (rw is refl)

  more : (w : V) (id : SessionId) → items w ≡ there (at rep) ++ id ∷ [] → there (cond (same_rep rep asked) (Some w) (at asked)) ≡ cond (same_rep rep asked) (there (at asked) ++ id ∷ []) (there (at asked))
  more w id put = go (same_rep rep asked) refl
    where
      go : (b : Bool) → same_rep rep asked ≡ b → there (cond b (Some w) (at asked)) ≡ cond b (there (at asked) ++ id ∷ []) (there (at asked))
      go true e = put ∙ ap (λ (r : RepId). there (at r) ++ id ∷ []) (same_rep-is rep asked e)
      go false e = refl

  -- an existing replication
  pub added_known : (v w : V) (id : SessionId) → at rep ≡ Some v → items w ≡ items v ++ id ∷ []
      → there (lookup (same_rep asked) (set_value (same_rep rep) es w)) ≡ cond (same_rep rep asked) (there (at asked) ++ id ∷ []) (there (at asked))
  added_known v w id is put = ap there (set_at v w is) ∙ more w id (put ∙ ap (λ o. there o ++ id ∷ []) (sym is))

  pub kept_known : (v w : V) → at rep ≡ Some v → items w ≡ items v → there (lookup (same_rep asked) (set_value (same_rep rep) es w)) ≡ there (at asked)
  kept_known v w is put = ap there (set_at v w is) ∙ go (same_rep rep asked) refl
    where
      go : (b : Bool) → same_rep rep asked ≡ b → there (cond b (Some w) (at asked)) ≡ there (at asked)
      go true e = put ∙ ap there (sym is) ∙ ap (λ (r : RepId). there (at r)) (same_rep-is rep asked e)
      go false e = refl

  -- a new replication
  pub added_new : (w : V) (id : SessionId) → at rep ≡ None → items w ≡ id ∷ [] → there (cond (same_rep rep asked) (Some w) (at asked)) ≡ cond (same_rep rep asked) (there (at asked) ++ id ∷ []) (there (at asked))
  added_new w id is put = more w id (put ∙ ap (λ o. there o ++ id ∷ []) (sym is))
