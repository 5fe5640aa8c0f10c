-- Adding revisions to the index.
use Rattle.proof_prelude.proofs.{◌≡◌, ℕ, ◌+◌, ◌<◌, Bool, true, false, ◌||◌, List, [], ◌∷◌, ◌++◌, length, take, get_or, cond, ◌&&◌, Option, Some, None, refl, subst, sym, ap, ◌∙◌, or-false, or_assoc, cond_both, or_right, list_any-append, list_any_more, eq_by_cmp, option_map_or, bytes_eq, bytes_eq-Decides, is_some, Result, Ok, Err, OnOk, OnErr, true≢false}
use Rattle.rev_core.specs.{RevId, rev_cmp, rev_tie_is, is_among}
use Rattle.indexmap.specs.IndexSet.{insert_key}
use Rattle.couch_base.specs.{Id}

pub or_held : (a b : Bool) → (a ≡ true → b ≡ true) → (b || a) ≡ b
or_held true b h = or_right b true refl ∙ sym (h refl)
or_held false b h = or-false b

pub among_inserted : (known : List RevId) (rev r : RevId) → is_among r (insert_key (eq_by_cmp rev_cmp) known rev) ≡ (is_among r known || eq_by_cmp rev_cmp r rev)
among_inserted known rev r =
    cond_both (is_among rev known) known (known ++ rev ∷ []) (λ l. is_among r l ≡ (is_among r known || eq_by_cmp rev_cmp r rev))
    (λ there. sym (or_held (eq_by_cmp rev_cmp r rev) (is_among r known) (λ e. subst (λ x. is_among x known ≡ true) (sym (rev_tie_is r rev e)) there)))
    (λ _. list_any-append (eq_by_cmp rev_cmp r) known (rev ∷ []) ∙ ap (λ b. is_among r known || b) (or-false (eq_by_cmp rev_cmp r rev)))

-- one more revision of a list
pub among_next : (before known new revs : List RevId) (i : ℕ) (rev r d : RevId)
    → i < length revs → rev ≡ get_or revs i d → new ≡ insert_key (eq_by_cmp rev_cmp) known rev
    → is_among r known ≡ (is_among r before || is_among r (take i revs))
    → is_among r new ≡ (is_among r before || is_among r (take (i + 1) revs))
among_next before known new revs i rev r d within at is h =
    ap (is_among r) is ∙ among_inserted known rev r
    ∙ ap (λ b. b || eq_by_cmp rev_cmp r rev) h
    ∙ or_assoc (is_among r before) (is_among r (take i revs)) (eq_by_cmp rev_cmp r rev)
    ∙ ap (λ x. is_among r before || (is_among r (take i revs) || eq_by_cmp rev_cmp r x)) at
    ∙ ap (λ b. is_among r before || b) (sym (list_any_more (eq_by_cmp rev_cmp r) revs i d within))

-- whether an entry of a table, if it is there, has this revision
abbrev pub has_rev : {V : Type 0} → (V → List RevId) → Option V → RevId → Bool
has_rev revs_of o r = option_map_or (λ v. is_among r (revs_of v)) o false

-- the revisions of a document that had no entry
pub added_new : {V : Type 0} (revs_of : V → List RevId) (old new : Id → Option V) (v : V) (id : Id) (ancestry : List RevId)
    → old id ≡ None → ((r : RevId) → is_among r (revs_of v) ≡ is_among r ancestry)
    → ((q : Id) → new q ≡ cond (bytes_eq id q) (Some v) (old q))
    → (q : Id) (r : RevId) → has_rev revs_of (new q) r ≡ (has_rev revs_of (old q) r || (bytes_eq id q && is_among r ancestry))
added_new revs_of old new v id ancestry absent all sets q r =
    ap (λ o. has_rev revs_of o r) (sets q)
    ∙ elim (bytes_eq id q) as (λ b. bytes_eq id q ≡ b → has_rev revs_of (cond b (Some v) (old q)) r ≡ (has_rev revs_of (old q) r || (b && is_among r ancestry))) [
      | true ↦ λ same.
          let there = ap old ((bytes_eq-Decides id q).0 same) in
          all r ∙ sym (ap (λ o. has_rev revs_of o r || is_among r ancestry) (sym there ∙ absent))
      | false ↦ λ _. sym (or-false (has_rev revs_of (old q) r))
    ] refl

-- what is added to the first of two parts is added to the whole
pub or_last : (a x b : Bool) → ((a || x) || b) ≡ ((a || b) || x)
or_last true x b = refl
or_last false true true = refl
or_last false true false = refl
or_last false false true = refl
or_last false false false = refl

pub no_some : {A : Type 0} (o : Option A) → is_some o ≡ false → o ≡ None
no_some None e = refl
no_some (Some x) e = absurd (true≢false e)

pub on_ok : {T E P Q : Type 0} (r : Result T E) → (P → Q) → OnOk r P → OnOk r Q
on_ok (Ok x) f p = f p
on_ok (Err e) f p = p

pub on_err : {T E P Q : Type 0} (r : Result T E) → (P → Q) → OnErr r P → OnErr r Q
on_err (Ok x) f p = p
on_err (Err e) f p = f p

pub always_on_err : {T E P : Type 0} (r : Result T E) → P → OnErr r P
always_on_err (Ok x) p = tt
always_on_err (Err e) p = p
