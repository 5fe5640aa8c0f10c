use Rattle.proof_prelude.proofs.{Ok, inl, refl, sym, ap, ◌∙◌, subst, IsOk, arc_slice_items}
use Rattle.serde_json.specs.Written.{has_float}
use Rattle.doc_json.proofs.{body_no_object, body_special, body_fraction, body_ok, is_object, is_body, out_of_memory}
use Rattle.doc_json.proofs.body.body_of.Goals as goal

pub returns-in_default : goal.returns-in_default
returns-in_default g c = inl (body_no_object _ (sym c.in_default.ensures.members))

pub returns-then-has_special : goal.returns-then-has_special
returns-then-has_special g c = inl (body_special _ _ (sym c.in-Some.ensures.members) (sym c.has_special.ensures ∙ c.if-has_special.true))

pub returns-then-has_fraction : goal.returns-then-has_fraction
returns-then-has_fraction g c =
    let object = sym c.in-Some.ensures.members in
    inl (body_fraction _ _ object (sym c.has_special.ensures ∙ c.if-has_special.false) (ap has_float (sym (is_object _ _ object)) ∙ sym c.has_fraction.ensures ∙ c.if-has_fraction.true))

pub returns-in_err-text : goal.returns-in_err-text
returns-in_err-text g c =
    let object = sym c.in-Some.ensures.members in
    let ok = body_ok _ _ object (sym c.has_special.ensures ∙ c.if-has_special.false) (ap has_float (sym (is_object _ _ object)) ∙ sym c.has_fraction.ensures ∙ c.if-has_fraction.false) in
    out_of_memory _ _ c.from_residual.ensures.1 (subst IsOk (sym ok) refl)

pub from_text-requires : goal.from_text-requires
from_text-requires g c =
    let object = sym c.in-Some.ensures.members in
    is_body (arc_slice_items c.in_ok-text.text) _ _ (is_object _ _ object) (sym c.has_special.ensures ∙ c.if-has_special.false)
    (ap has_float (sym (is_object _ _ object)) ∙ sym c.has_fraction.ensures ∙ c.if-has_fraction.false) c.in_ok-text.ensures

pub returns : goal.returns
returns g c =
    let object = sym c.in-Some.ensures.members in
    body_ok _ _ object (sym c.has_special.ensures ∙ c.if-has_special.false) (ap has_float (sym (is_object _ _ object)) ∙ sym c.has_fraction.ensures ∙ c.if-has_fraction.false)
    ∙ ap Ok (sym c.in_ok-text.ensures.compact ∙ sym c.from_text.ensures)
