-- The serialized form of a document reads as that document.
use Rattle.proof_prelude.proofs.{◌≡◌, ℕ, ◌≤◌, List, [], ◌∷◌, Bool, true, false, Option, Some, None, option_map, option_and_then, is_some, Ok, codes, refl, sym, ap, ◌∙◌, subst, arith, or_parts}
use Rattle.json.specs.Lex.{tokens}
use Rattle.json.specs.Tree as tree
use Rattle.json.specs.Tree.{json_tokens, HasNumbers, ItemsHaveNumbers, MembersHaveNumbers}
use Rattle.json.proofs.Printed.Decimals.{IsNumber-decimal}
use Rattle.serde_json.specs.Data.{Data, Members, no_members, member, object, string}
use Rattle.serde_json.specs.Find.{get, get_member, as_str}
use Rattle.serde_json.specs.Read.{read, of_members, max_depth}
use Rattle.serde_json.specs.Written.{outline, items_outline, members_outline, compact_text, members_have_float}
use Rattle.rev_core.specs.{RevId, rev_text, IsAncestry, rev_read-text, ◌>>=◌, or_refused, named}
use Rattle.doc_json.specs.{is_special, doc_id_read, has_special, has_unknown, plain_members, body_text, revs_read, rev_member, with_revisions, matched, IsDocument, doc_read, id_member, flag_of, doc_text}
use Rattle.doc_json.specs.Document.{Document}
use Rattle.doc_json.specs.declared.fault.DocFault.TheVariants as faults
use Rattle.doc_json.proofs.DocReads.{accepted}
use Rattle.doc_json.proofs.Sorted.{IsSorted, ArePlain, IsBeside, beside}
use Rattle.doc_json.proofs.WrittenTexts.{reads_as, compact_tokens, written_numbers, members_back}
use Rattle.doc_json.proofs.DocData.{sig_items, with_flag, doc_members, special_members, revisions_value, doc_members_read, doc_members_text}
use Rattle.doc_json.proofs.Ancestries.{revisions_back, matched_back}

-- ---- the members of the text

sig_items_numbers : (revs : List RevId) → ItemsHaveNumbers (items_outline (sig_items revs))
sig_items_numbers [] = tt
sig_items_numbers (r ∷ revs) = (tt, sig_items_numbers revs)

flag_numbers : (deleted : Bool) (ms : Members) → MembersHaveNumbers (members_outline ms) → MembersHaveNumbers (members_outline (with_flag deleted ms))
flag_numbers true ms h = (tt, h)
flag_numbers false ms h = h

flag_depth : (deleted : Bool) (ms : Members) → tree.members_depth (members_outline ms) ≤ tree.members_depth (members_outline (with_flag deleted ms))
flag_depth true ms = omega arith
flag_depth false ms = omega arith

plain_names : (ms : Members) → has_special ms ≡ false → ArePlain (members_outline ms)
plain_names no_members h = tt
plain_names (member name d ms) h = let parts = or_parts (is_special name) _ h in (parts.0, plain_names ms parts.1)

-- ---- the special members

module _ (id : List ℕ) (head : RevId) (older : List RevId) where
  special_sorted : (deleted : Bool) → IsSorted (special_members id head older deleted)
  special_sorted true = ((refl, (refl, (refl, tt))), ((refl, (refl, tt)), ((refl, tt), (tt, tt))))
  special_sorted false = ((refl, (refl, tt)), ((refl, tt), (tt, tt)))

  none_plain : (deleted : Bool) → plain_members (special_members id head older deleted) ≡ no_members
  none_plain true = refl
  none_plain false = refl

  all_known : (deleted : Bool) → has_unknown (special_members id head older deleted) ≡ false
  all_known true = refl
  all_known false = refl

  id_there : (deleted : Bool) → get_member (codes "_id") (special_members id head older deleted) ≡ Some (string id)
  id_there true = refl
  id_there false = refl

  rev_there : (deleted : Bool) → get_member (codes "_rev") (special_members id head older deleted) ≡ Some (string (rev_text head))
  rev_there true = refl
  rev_there false = refl

  revisions_there : (deleted : Bool) → get_member (codes "_revisions") (special_members id head older deleted) ≡ Some (revisions_value head older)
  revisions_there true = refl
  revisions_there false = refl

  flag_there : (deleted : Bool) → flag_of (get_member (codes "_deleted") (special_members id head older deleted)) ≡ Ok deleted
  flag_there true = refl
  flag_there false = refl

  unattached : (deleted : Bool) → get_member (codes "_attachments") (special_members id head older deleted) ≡ None
  unattached true = refl
  unattached false = refl

-- ---- reading them

revs_back : (d : Data) (head : RevId) (older : List RevId) (deleted : Bool) (doc : Document) → doc.ancestry ≡ head ∷ older → IsDocument doc → get (codes "_rev") d ≡ Some (string (rev_text head))
    → get (codes "_revisions") d ≡ Some (revisions_value head older) → revs_read d ≡ Ok (head ∷ older)
revs_back d head older deleted doc is h rev revisions = unfold revs_read in
    let ancestry = subst IsAncestry is h.ancestry in
    ap (λ r. rev_member r >>= with_revisions (get (codes "_revisions") d)) rev
    ∙ ap (λ r. (named faults.NoRev r >>= (λ x. Ok (Some x))) >>= with_revisions (get (codes "_revisions") d)) (rev_read-text head ancestry.each.0)
    ∙ ap (λ m. with_revisions m (Some head)) revisions
    ∙ ap (λ r. r >>= matched (Some head)) (revisions_back head older ancestry)
    ∙ matched_back head older

module _ (id : List ℕ) (head : RevId) (older : List RevId) (deleted : Bool) (body : List ℕ) where
  abbrev doc : Document
  doc = record { id = id; ancestry = head ∷ older; deleted = deleted; body = body }

  module _ (h : IsDocument doc) where
    -- the members beside the special ones
    accepted_back : (out : Members) → IsBeside (members_outline h.body.members) (special_members id head older deleted) out → of_members (members_outline h.body.members) no_members ≡ Some h.body.members
        → doc_read (object out) ≡ Ok doc
    accepted_back out b back =
        let found : (k : List ℕ) → is_special k ≡ true → get k (object out) ≡ get_member k (special_members id head older deleted) = b.special in
        let ms = h.body.members in
        let both : Some (plain_members out) ≡ Some ms = sym b.plain ∙ ap (of_members (members_outline ms)) (none_plain id head older deleted) ∙ back in
        let same : plain_members out ≡ ms = cc in
        let named_id : id_member (object out) ≡ Ok id =
        ap (λ o. or_refused faults.NoId (option_and_then as_str o) >>= doc_id_read) (found (codes "_id") refl ∙ id_there id head older deleted) ∙ h.id in
        let text : body_text out ≡ body = ap (λ x. compact_text (object x)) same ∙ sym h.body.written.compact in
        accepted (object out) out refl id named_id (ap is_some (found (codes "_attachments") refl ∙ unattached id head older deleted)) (b.known ∙ all_known id head older deleted) deleted
        (ap flag_of (found (codes "_deleted") refl) ∙ flag_there id head older deleted) (head ∷ older)
        (revs_back (object out) head older deleted doc refl h (found (codes "_rev") refl ∙ rev_there id head older deleted) (found (codes "_revisions") refl ∙ revisions_there id head older deleted))
        (ap members_have_float same ∙ h.body.exact)
        ∙ ap (λ t. Ok (record { id = id; ancestry = head ∷ older; deleted = deleted; body = t })) text

    whole_numbers : HasNumbers (outline (object (doc_members id head older deleted h.body.members)))
    whole_numbers = (
      tt,
      (
        tt,
        (
          (IsNumber-decimal head.generation (omega (arith, h.ancestry.each.0.high)), (sig_items_numbers (head ∷ older), tt)),
          flag_numbers deleted h.body.members (written_numbers body h.body.members h.body.exact h.body.written),
        ),
      ),
    )

    finish : (d : Data) → tree.depth (outline (object (doc_members id head older deleted h.body.members))) ≤ max_depth
        → (o : Option Members) → of_members (members_outline h.body.members) (special_members id head older deleted) ≡ o → option_map object o ≡ Some d → doc_read d ≡ Ok doc
    finish d shallow None is e = absurd (cc)
    finish d shallow (Some out) is e =
        let ms = h.body.members in
        let low = flag_depth deleted ms in
        let back = members_back body ms h.body.exact h.body.written (omega arith) in
        let it : object out ≡ d = cc in
        subst (λ x. doc_read x ≡ Ok doc) it
        (accepted_back out (beside (members_outline ms) _ out (plain_names ms h.body.plain) (special_sorted id head older deleted) is) back)

    read_parts : (d : Data) → read (doc_text doc) ≡ Some d → doc_read d ≡ Ok doc
    read_parts d e =
        let ms = h.body.members in
        let whole = object (doc_members id head older deleted ms) in
        let text : doc_text doc ≡ compact_text whole = doc_members_text id head older deleted ms body h.ancestry.each.0 h.ancestry.each.1 h.body.written.compact in
        let known : tokens (doc_text doc) ≡ json_tokens (outline whole) = ap tokens text ∙ compact_tokens whole whole_numbers in
        let r = reads_as (doc_text doc) (outline whole) d known e in
        finish d r.shallow _ refl (sym (doc_members_read id head older deleted ms h.ancestry.each.0) ∙ r.value)

by_list : (id : List ℕ) (revs : List RevId) (deleted : Bool) (body : List ℕ) → IsDocument (record { id = id; ancestry = revs; deleted = deleted; body = body })
    → (d : Data) → read (doc_text (record { id = id; ancestry = revs; deleted = deleted; body = body })) ≡ Some d → doc_read d ≡ Ok (record { id = id; ancestry = revs; deleted = deleted; body = body })
by_list id [] deleted body h d e = absurd (omega (arith, h.ancestry.nonempty))
by_list id (head ∷ older) deleted body h d e = read_parts id head older deleted body h d e

-- if the serialized form of a document is read, the result is the document
pub read_back : (doc : Document) → IsDocument doc → (d : Data) → read (doc_text doc) ≡ Some d → doc_read d ≡ Ok doc
read_back doc h d e = by_list doc.id doc.ancestry doc.deleted doc.body h d e
