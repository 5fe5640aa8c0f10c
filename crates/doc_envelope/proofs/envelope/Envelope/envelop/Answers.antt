use Rattle.proof_prelude.proofs.{◌≡◌, true, sym, subst, ap, ◌∙◌, IfOk, Ok}
use Rattle.doc_envelope.specs.{is_envelope, made_of, held_of}
use Rattle.doc_envelope.proofs.{fold_enveloped, printed_envelope, put_end, put_none}
use Rattle.doc_envelope.proofs.envelope.Envelope.envelop.Goals as goal

pub returns-then-not-branch : goal.returns-then-not-branch
returns-then-not-branch c =
    let folded = fold_enveloped c.args.document.now (made_of c.fold.new.self) (held_of c.fold.new.self) c.in_ok-fold.ensures.made c.in_ok-fold.ensures.held in
    put_none c.args.document.now (held_of c.fold.new.self) folded.1 (sym c.in_ok-end_fold.ensures.is ∙ c.if-not-branch.true)

pub returns-then-printed : goal.returns-then-printed
returns-then-printed c =
    let e = c.fold.new.self in
    let folded = fold_enveloped c.args.document.now (made_of e) (held_of e) c.in_ok-fold.ensures.made c.in_ok-fold.ensures.held in
    let utf8 = sym c.in_ok-end_fold.ensures.is ∙ c.if-not-branch.false in
    let made = c.in_ok-end_fold.ensures.made c.if-not-branch.false in
    let is = ap is_envelope made ∙ printed_envelope (made_of e) (held_of e) (c.in_ok-fold.ensures.printed c.if-printed.true) utf8 in
    put_end {E = Unit {0}} c.args.document.now (made_of c.end_fold.new.self) (held_of e) (Ok true) (made ∙ folded.0) folded.1 utf8 (sym is)

pub returns : goal.returns
returns c =
    let folded = fold_enveloped c.args.document.now (made_of c.fold.new.self) (held_of c.fold.new.self) c.in_ok-fold.ensures.made c.in_ok-fold.ensures.held in
    let made = c.in_ok-end_fold.ensures.made c.if-not-branch.false ∙ folded.0 in
    put_end c.args.document.now (made_of c.end_fold.new.self) (held_of c.fold.new.self) c.is_envelope.result made folded.1 (sym c.in_ok-end_fold.ensures.is ∙ c.if-not-branch.false)
    (subst (λ t. IfOk c.is_envelope.result (λ ok. ok ≡ is_envelope t)) c.as_slice.ensures.value c.is_envelope.ensures)
