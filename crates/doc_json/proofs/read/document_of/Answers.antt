use Rattle.proof_prelude.proofs.{◌≡◌, List, Result, Ok, Some, ℕ, codes, is_some, option_map, Bool, Option, inl, refl, sym, ap, ◌∙◌, subst, IsOk, IfOk}
use Rattle.serde_json.specs.Data.{Data, Members}
use Rattle.serde_json.specs.Find.{get, get_member, as_object}
use Rattle.rev_core.specs.{RevId}
use Rattle.doc_json.specs.{flag_of, id_of, id_member, rev_member, with_revisions, revs_read, DocFault}
use Rattle.doc_json.specs.Document.{Document}
use Rattle.doc_json.proofs.{is_object, is_some-option_map, ok_value, found_at, no_object, bad_id, attached, unknown, bad_flag, bad_revs, fraction, accepted, revs_by, revs_refused, refused, out_of_memory}
use Rattle.json_values.specs.{ArePlain}
use Rattle.doc_json.proofs.read.document_of.Goals as goal

-- reading the members that were found
module _ (d : Data) (ms : Members) (object : as_object d ≡ Some ms) where
  named : (o : Option Data) → o ≡ get_member (codes "_id") ms → id_member d ≡ id_of o
  named o found = ap id_of (found_at (codes "_id") d ms o object found)

  there : {X : Type 0} (seen : X → Data) (o : Option X) (b : Bool) → option_map seen o ≡ get_member (codes "_attachments") ms → b ≡ is_some o → is_some (get (codes "_attachments") d) ≡ b
  there seen o b found e = ap is_some (found_at (codes "_attachments") d ms _ object found) ∙ is_some-option_map seen o ∙ sym e

  flag : (o : Option Data) → o ≡ get_member (codes "_deleted") ms → flag_of (get (codes "_deleted") d) ≡ flag_of o
  flag o found = ap flag_of (found_at (codes "_deleted") d ms o object found)

  given : (o : Option Data) → o ≡ get_member (codes "_rev") ms → rev_member (get (codes "_rev") d) ≡ rev_member o
  given o found = ap rev_member (found_at (codes "_rev") d ms o object found)

  beside : (o : Option Data) (rev : Option RevId) → o ≡ get_member (codes "_revisions") ms → rev_member (get (codes "_rev") d) ≡ Ok rev → revs_read d ≡ with_revisions o rev
  beside o rev found read = revs_by d rev read ∙ ap (λ m. with_revisions m rev) (found_at (codes "_revisions") d ms o object found)

pub returns-in_default : goal.returns-in_default
returns-in_default g c = inl (no_object _ (sym c.in_default.ensures.members))

pub returns-in_err-id : goal.returns-in_err-id
returns-in_err-id g c =
    let object = sym c.in-Some.ensures.members in
    refused _ _ _ c.from_residual.ensures.1 (bad_id _ _ object _ (named _ _ object _ c.find_members-found.ensures.id ∙ c.in_err-id.ensures.err))

pub returns-then-is_some : goal.returns-then-is_some
returns-then-is_some g c =
    let object = sym c.in-Some.ensures.members in
    let f = c.find_members-found.ensures in
    inl (attached _ _ object _ (named _ _ object _ f.id ∙ c.in_ok-id.ensures.id) (there _ _ object _ _ _ f.attachments c.is_some.ensures ∙ c.if-is_some.true))

pub returns-then-found : goal.returns-then-found
returns-then-found g c =
    let object = sym c.in-Some.ensures.members in
    let f = c.find_members-found.ensures in
    inl (unknown _ _ object _ (named _ _ object _ f.id ∙ c.in_ok-id.ensures.id) (there _ _ object _ _ _ f.attachments c.is_some.ensures ∙ c.if-is_some.false) (sym f.unknown ∙ c.if-found.true))

pub returns-in_err-deleted : goal.returns-in_err-deleted
returns-in_err-deleted g c =
    let object = sym c.in-Some.ensures.members in
    let f = c.find_members-found.ensures in
    refused _ _ _ c.from_residual-in_err-deleted.ensures.1
    (bad_flag _ _ object _ (named _ _ object _ f.id ∙ c.in_ok-id.ensures.id) (there _ _ object _ _ _ f.attachments c.is_some.ensures ∙ c.if-is_some.false) (sym f.unknown ∙ c.if-found.false) _
    (flag _ _ object _ f.deleted ∙ sym c.in_err-deleted.ensures))

pub returns-in_err-rev : goal.returns-in_err-rev
returns-in_err-rev g c =
    let object = sym c.in-Some.ensures.members in
    let f = c.find_members-found.ensures in
    refused _ _ _ c.from_residual-in_err-rev.ensures.1
    (bad_revs _ _ object _ (named _ _ object _ f.id ∙ c.in_ok-id.ensures.id) (there _ _ object _ _ _ f.attachments c.is_some.ensures ∙ c.if-is_some.false) (sym f.unknown ∙ c.if-found.false) _
    (flag _ _ object _ f.deleted ∙ sym c.in_ok-deleted.ensures) _ (revs_refused _ _ (given _ _ object _ f.rev ∙ sym c.in_err-rev.ensures)))

pub returns-in_err-ancestry : goal.returns-in_err-ancestry
returns-in_err-ancestry g c =
    let object = sym c.in-Some.ensures.members in
    let f = c.find_members-found.ensures in
    refused _ _ _ c.from_residual-in_err-ancestry.ensures.1
    (bad_revs _ _ object _ (named _ _ object _ f.id ∙ c.in_ok-id.ensures.id) (there _ _ object _ _ _ f.attachments c.is_some.ensures ∙ c.if-is_some.false) (sym f.unknown ∙ c.if-found.false) _
    (flag _ _ object _ f.deleted ∙ sym c.in_ok-deleted.ensures) _ (beside _ _ object _ _ f.revisions (given _ _ object _ f.rev ∙ sym c.in_ok-rev.ensures) ∙ c.in_err-ancestry.ensures.err))

pub returns-then-found-2 : goal.returns-then-found-2
returns-then-found-2 g c =
    let object = sym c.in-Some.ensures.members in
    let f = c.find_members-found.ensures in
    let revs = ok_value _ c.in_ok-ancestry.ensures.ok in
    inl (fraction _ _ object _ (named _ _ object _ f.id ∙ c.in_ok-id.ensures.id) (there _ _ object _ _ _ f.attachments c.is_some.ensures ∙ c.if-is_some.false) (sym f.unknown ∙ c.if-found.false) _
    (flag _ _ object _ f.deleted ∙ sym c.in_ok-deleted.ensures) revs.0 (beside _ _ object _ _ f.revisions (given _ _ object _ f.rev ∙ sym c.in_ok-rev.ensures) ∙ revs.1) (sym f.fraction ∙ c.if-found-2.true))

pub returns-in_err-ancestry-2 : goal.returns-in_err-ancestry-2
returns-in_err-ancestry-2 g c =
    let object = sym c.in-Some.ensures.members in
    let f = c.find_members-found.ensures in
    let revs = ok_value _ c.in_ok-ancestry.ensures.ok in
    let read = accepted _ _ object _ (named _ _ object _ f.id ∙ c.in_ok-id.ensures.id) (there _ _ object _ _ _ f.attachments c.is_some.ensures ∙ c.if-is_some.false) (sym f.unknown ∙ c.if-found.false) _
    (flag _ _ object _ f.deleted ∙ sym c.in_ok-deleted.ensures) revs.0 (beside _ _ object _ _ f.revisions (given _ _ object _ f.rev ∙ sym c.in_ok-rev.ensures) ∙ revs.1) (sym f.fraction ∙ c.if-found-2.false) in
    out_of_memory _ _ c.from_residual-in_err-ancestry-2.ensures.1 (subst IsOk (sym read) refl)

pub returns-in_err-id-2 : goal.returns-in_err-id-2
returns-in_err-id-2 g c =
    let object = sym c.in-Some.ensures.members in
    let f = c.find_members-found.ensures in
    let revs = ok_value _ c.in_ok-ancestry.ensures.ok in
    let read = accepted _ _ object _ (named _ _ object _ f.id ∙ c.in_ok-id.ensures.id) (there _ _ object _ _ _ f.attachments c.is_some.ensures ∙ c.if-is_some.false) (sym f.unknown ∙ c.if-found.false) _
    (flag _ _ object _ f.deleted ∙ sym c.in_ok-deleted.ensures) revs.0 (beside _ _ object _ _ f.revisions (given _ _ object _ f.rev ∙ sym c.in_ok-rev.ensures) ∙ revs.1) (sym f.fraction ∙ c.if-found-2.false) in
    out_of_memory _ _ c.from_residual-in_err-id-2.ensures.1 (subst IsOk (sym read) refl)

pub returns-in_err-body : goal.returns-in_err-body
returns-in_err-body g c =
    let object = sym c.in-Some.ensures.members in
    let f = c.find_members-found.ensures in
    let revs = ok_value _ c.in_ok-ancestry.ensures.ok in
    let read = accepted _ _ object _ (named _ _ object _ f.id ∙ c.in_ok-id.ensures.id) (there _ _ object _ _ _ f.attachments c.is_some.ensures ∙ c.if-is_some.false) (sym f.unknown ∙ c.if-found.false) _
    (flag _ _ object _ f.deleted ∙ sym c.in_ok-deleted.ensures) revs.0 (beside _ _ object _ _ f.revisions (given _ _ object _ f.rev ∙ sym c.in_ok-rev.ensures) ∙ revs.1) (sym f.fraction ∙ c.if-found-2.false) in
    out_of_memory _ _ c.from_residual-in_err-body.ensures.1 (subst IsOk (sym read) refl)

pub plain_body-requires : goal.plain_body-requires
plain_body-requires g c κs =
    ((refl, tt), (sym c.find_members-found.ensures.fraction ∙ c.if-found-2.false, (c.in-Some.ensures.order c.requires.order, subst (ArePlain c.args.plain) (is_object _ _ (sym c.in-Some.ensures.members)) c.requires.plain)))

pub returns : goal.returns
returns g c =
    let object = sym c.in-Some.ensures.members in
    let f = c.find_members-found.ensures in
    let o = option_map (λ v. g.V.JsonValue.seen v.now) c.find_members-found.result.revisions in
    let of : List ℕ → List RevId → List ℕ → Result Document DocFault = λ id revs body. Ok (record { id = id; ancestry = revs; deleted = c.in_ok-deleted.deleted; body = body }) in
    let reads : List RevId → Type 0 = λ revs. with_revisions o c.in_ok-rev.rev ≡ Ok revs in
    let revs : with_revisions o c.in_ok-rev.rev ≡ Ok c.in_ok-ancestry-2.ancestry = subst (λ r. IfOk r reads) c.in_ok-ancestry-2.was c.in_ok-ancestry.ensures.built in
    accepted _ _ object _ (named _ _ object _ f.id ∙ c.in_ok-id.ensures.id) (there _ _ object _ _ _ f.attachments c.is_some.ensures ∙ c.if-is_some.false) (sym f.unknown ∙ c.if-found.false) _
    (flag _ _ object _ f.deleted ∙ sym c.in_ok-deleted.ensures) _ (beside _ _ object _ _ f.revisions (given _ _ object _ f.rev ∙ sym c.in_ok-rev.ensures) ∙ revs) (sym f.fraction ∙ c.if-found-2.false)
    ∙ (λ i. of (sym c.in_ok-id-2.ensures.id i) c.in_ok-ancestry-2.ancestry (sym c.in_ok-body.ensures.body i)) ∙ ap Ok (sym c.new.ensures.parts)
