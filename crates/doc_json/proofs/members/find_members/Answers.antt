use Rattle.proof_prelude.proofs.{◌≡◌, ◌||◌, ℕ, List, Bool, true, false, if◌then◌else◌, codes, refl, sym, ap, ◌∙◌}
use Rattle.serde_json.specs.Data.{Data, Members, no_members, member}
use Rattle.serde_json.specs.Written.{has_float, members_have_float}
use Rattle.doc_json.specs.{is_special, has_unknown, plain_members}
use Rattle.doc_json.proofs.{more}
use Rattle.doc_json.proofs.members.find_members.Goals as goal

or_assoc : (a b c : Bool) → ((a || b) || c) ≡ (a || (b || c))
or_assoc true b c = refl
or_assoc false b c = refl

or_false : (a : Bool) → (a || false) ≡ a
or_false true = refl
or_false false = refl

-- a float is among the plain members exactly if it is in the first one or in the others
parted : (k : List ℕ) (d : Data) (ms : Members) → members_have_float (plain_members (member k d ms)) ≡ (members_have_float (plain_members (member k d no_members)) || members_have_float (plain_members ms))
parted k d ms = by (is_special k)
  where
    by : (b : Bool) → members_have_float (if b then plain_members ms else member k d (plain_members ms)) ≡ (members_have_float (if b then no_members else member k d no_members) || members_have_float (plain_members ms))
    by true = refl
    by false = ap (λ x. x || members_have_float (plain_members ms)) (sym (or_false (has_float d)))

pub loop-name-preserved : goal.loop-name-preserved
loop-name-preserved g c =
    let l = c.loop-name in
    let e = c.looked-found.ensures in
    let name = c.in-Some.name.now in
    let d = g.V.JsonValue.seen c.in-Some.member.now in
    let rest = g.V.JsonValue.left c.next_member.new.members in
    let s = c.in-Some.ensures.members in
    let one = members_have_float (plain_members (member name d no_members)) in
    record {
      id = more (codes "_id") _ _ _ _ _ _ _ s e.id l.invariant.id;
      attachments = more (codes "_attachments") _ _ _ _ _ _ _ s e.attachments l.invariant.attachments;
      deleted = more (codes "_deleted") _ _ _ _ _ _ _ s e.deleted l.invariant.deleted;
      rev = more (codes "_rev") _ _ _ _ _ _ _ s e.rev l.invariant.rev;
      revisions = more (codes "_revisions") _ _ _ _ _ _ _ s e.revisions l.invariant.revisions;
      unknown = ap (λ b. b || has_unknown rest) e.unknown ∙ or_assoc l.found.has_unknown _ (has_unknown rest) ∙ ap (λ ms. l.found.has_unknown || has_unknown ms) (sym s) ∙ l.invariant.unknown;
      fraction = ap (λ b. b || members_have_float (plain_members rest)) e.fraction ∙ or_assoc l.found.has_fraction one _
          ∙ ap (λ b. l.found.has_fraction || b) (sym (ap (λ ms. members_have_float (plain_members ms)) s ∙ parted name d rest)) ∙ l.invariant.fraction;
    }
