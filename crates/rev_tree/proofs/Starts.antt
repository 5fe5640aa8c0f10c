-- An empty list of nodes, and the empty tree.
use Rattle.proof_prelude.proofs.{◌≡◌, [], sym, ap, ◌∙◌, is_some, arith, and_parts, false≢true, get-empty}
use Rattle.rev_core.specs.{rev_cmp}
use Rattle.rev_tree.specs.{IsLinked, IsTree, has, no_revisions, IsIndexed, PlacesValue}
use Rattle.rev_tree.proofs.Tournaments.{empty_played}

pub IsLinked-none : IsLinked []
IsLinked-none = record { once = tt; each = λ r n h. absurd (false≢true (ap is_some h)) }

pub IsIndexed-none : (places : PlacesValue) → places.entries ≡ [] → places.winners ≡ [] → places.entered ≡ 0 → IsIndexed [] places
IsIndexed-none places entries winners entered = record {
  few = omega arith;
  index = entries;
  linked = IsLinked-none;
  played = empty_played [] places.winners places.entered winners entered;
}

pub IsTree-no_revisions : IsTree no_revisions
IsTree-no_revisions = record {
  revs = λ r h. absurd (false≢true (sym (ap is_some (get-empty rev_cmp r)) ∙ h));
  child = λ c p h. absurd (false≢true (sym (ap is_some (get-empty rev_cmp c)) ∙ ap is_some h));
  parent = λ c p h. absurd (false≢true (sym (ap is_some (get-empty rev_cmp c)) ∙ ap is_some h));
  falls = λ c p h. absurd (false≢true (sym (ap is_some (get-empty rev_cmp c)) ∙ ap is_some h));
  content = λ r h. absurd (false≢true (sym (ap is_some (get-empty rev_cmp r)) ∙ h));
  leaf = λ r h. absurd (false≢true (sym (ap is_some (get-empty rev_cmp r)) ∙ (and_parts (has no_revisions r) _ h).0));
}
