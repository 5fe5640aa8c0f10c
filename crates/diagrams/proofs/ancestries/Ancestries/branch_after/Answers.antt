use Rattle.proof_prelude.proofs.{◌≡◌, ℕ, List, [], ◌∷◌, ◌∙◌, ◌⊎◌, Option, Some, Result, Ok, Err, IfSome, OnErr, OnOk, inl, inr, length, sym, subst, get_or_from_slice_get}
use Rattle.rev_core.specs.{RevId}
use Rattle.diagrams.specs.declared.ancestries.Point.{Point}
use Rattle.diagrams.specs.declared.ancestries.Start.{Start}
use Rattle.diagrams.specs.Branches.{AreLinked, Branch, Follows, IsWithin}
use Rattle.diagrams.proofs.BranchLemmas.{follows_from, follows_more, found, inserted, linked_more}
use Rattle.diagrams.proofs.ancestries.Ancestries.branch_after.Goals as goal

either : {A E P Q : Type 0} (r : Result A E) → OnOk r P → OnErr r Q → P ⊎ Q
either (Ok x) p q = inl p
either (Err e) p q = inr q

parent : (bs : List Branch) (at : Option Point) → IfSome at (λ p. IsWithin bs (length bs) p) → (p : Point) → at ≡ Some p → IsWithin bs (length bs) p
parent bs at h p e = subst (λ (o : Option Point). IfSome o (λ q. IsWithin bs (length bs) q)) e h

pub returns-in-Some-get_index_of-clause-follows : goal.returns-in-Some-get_index_of-clause-follows
returns-in-Some-get_index_of-clause-follows c r h =
    let bs = c.args.self.now.branches.entries in
    let i = c.in-Some-get_index_of.branch in
    let start : Start = record { from = c.args.at; rev = c.index-revs-0-2.result } in
    let there = found bs start i (sym c.in-Some-get_index_of.ensures.index) in
    let first : c.index-revs-0-2.result ≡ r = c.index-revs-0-2.is ∙ get_or_from_slice_get c.args.revs.now 0 r c.index-revs-0-2.result h in
    subst (λ (x : RevId). Follows bs c.args.at x i) first
    (subst (λ (s : Start). Follows bs s.from s.rev i) there.2 (follows_from bs c.args.self.now.linked i there.0 there.1))

pub invariant_of-self : goal.invariant_of-self
invariant_of-self c =
    let m = c.args.self.now.branches in
    let start : Start = record { from = c.args.at; rev = c.index-revs-0-2.result } in
    let rest = c.in_ok-rest.rest in
    record {
      linked = elim (either c.insert.result c.insert.ensures.entries c.insert.ensures.err) [
        | inl e ↦ subst AreLinked (sym (e ∙ inserted m start rest c.in_default-get_index_of.ensures.found))
            (linked_more m.entries c.args.self.now.linked (start, rest) (parent m.entries c.args.at c.requires.within))
        | inr e ↦ subst AreLinked (sym e) c.args.self.now.linked
      ];
    }

pub returns-clause-follows : goal.returns-clause-follows
returns-clause-follows c r h =
    let m = c.args.self.now.branches in
    let start : Start = record { from = c.args.at; rev = c.index-revs-0-2.result } in
    let rest = c.in_ok-rest.rest in
    let first : c.index-revs-0-2.result ≡ r = c.index-revs-0-2.is ∙ get_or_from_slice_get c.args.revs.now 0 r c.index-revs-0-2.result h in
    let entries = c.in_ok-insert.ensures.entries ∙ inserted m start rest c.in_default-get_index_of.ensures.found in
    subst (λ (n : ℕ). Follows c.insert.new.self.entries c.args.at r n) (sym c.len-branch.ensures.len)
    (subst (λ (x : RevId). Follows c.insert.new.self.entries c.args.at x (length m.entries)) first
    (subst (λ (es : List Branch). Follows es c.args.at start.rev (length m.entries)) (sym entries)
    (follows_more m.entries c.args.self.now.linked (start, rest) (parent m.entries c.args.at c.requires.within))))

pub returns-clause-extends : goal.returns-clause-extends
returns-clause-extends c =
    let start : Start = record { from = c.args.at; rev = c.index-revs-0-2.result } in
    let rest = c.in_ok-rest.rest in
    ((start, rest) ∷ [], c.in_ok-insert.ensures.entries ∙ inserted c.args.self.now.branches start rest c.in_default-get_index_of.ensures.found)
