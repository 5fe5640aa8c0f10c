use Rattle.proof_prelude.proofs.{sym, subst, ◌∙◌, ◌≡◌, ℕ, List, AllByRecursion}
use Rattle.rev_core.specs.{IsRev, RevId, FallsByOne}
use Rattle.output_parser.specs.{IsRevs, BeginsWith}
use Rattle.output_parser.proofs.{revs_unique, leaf_list, none_at, some_at}
use Rattle.output_parser.proofs.lines.read_leaf.Goals as goal

pub returns-in_default-2-clause-none : goal.returns-in_default-2-clause-none
returns-in_default-2-clause-none c =
    λ live revs p.
    let same = leaf_list c.args.line.now p.own c.in-Some.own.now live c.in-Some.live p.list c.in-Some.list.now p.parts c.in-Some.ensures.some in
    none_at c.in_ok-revs.field-0 ((revs : List RevId) → IsRevs c.in-Some.list.now revs → ⊥) c.in_default-2.is c.in_ok-revs.ensures.none
    revs (subst (λ (t : List ℕ). IsRevs t revs) same.1 p.listed)

pub returns-then-not-falls_by_one-clause-none : goal.returns-then-not-falls_by_one-clause-none
returns-then-not-falls_by_one-clause-none c =
    λ live revs p.
    let same = leaf_list c.args.line.now p.own c.in-Some.own.now live c.in-Some.live p.list c.in-Some.list.now p.parts c.in-Some.ensures.some in
    let read = some_at c.in_ok-revs.field-0 (λ v. IsRevs c.in-Some.list.now v.items) c.in-Some-2.revs c.in-Some-2.is c.in_ok-revs.ensures.some in
    let are : revs ≡ c.in-Some-2.revs.items = revs_unique c.in-Some.list.now revs c.in-Some-2.revs.items (subst (λ (t : List ℕ). IsRevs t revs) same.1 p.listed) read in
    c.falls_by_one.ensures.no c.if-not-falls_by_one.true (subst FallsByOne (are ∙ sym c.as_slice.ensures.value) p.falls)

pub returns-then-not-begins_with-clause-none : goal.returns-then-not-begins_with-clause-none
returns-then-not-begins_with-clause-none c =
    λ live revs p.
    let same = leaf_list c.args.line.now p.own c.in-Some.own.now live c.in-Some.live p.list c.in-Some.list.now p.parts c.in-Some.ensures.some in
    let read = some_at c.in_ok-revs.field-0 (λ v. IsRevs c.in-Some.list.now v.items) c.in-Some-2.revs c.in-Some-2.is c.in_ok-revs.ensures.some in
    let are : revs ≡ c.in-Some-2.revs.items = revs_unique c.in-Some.list.now revs c.in-Some-2.revs.items (subst (λ (t : List ℕ). IsRevs t revs) same.1 p.listed) read in
    let slice = sym c.as_slice-2.ensures.value in
    c.begins_with.ensures.no c.if-not-begins_with.true (subst (AllByRecursion IsRev) slice read.each)
    (subst (λ (t : List ℕ). BeginsWith t c.as_slice-2.result.now) same.0 (subst (BeginsWith p.own) (are ∙ slice) p.begins))
