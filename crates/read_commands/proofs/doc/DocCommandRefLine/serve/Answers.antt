use Rattle.proof_prelude.proofs.{◌≡◌, List, ℕ, Option, Ok, Err, Some, None, refl, sym, ap, ◌∙◌}
use Rattle.rev_core.specs.{RevId}
use Rattle.doc_json.specs.Document.{Document}
use Rattle.couch_base.specs.{DatabaseValue, document_at}
use Rattle.repl_peer.specs.{PeerValue}
use Rattle.script_engine.specs.{in_full, gave_up}
use Rattle.script_databases.specs.declared.refusal.Refusal.TheVariants as why
use Rattle.command_api.proofs.{passes, stops, is_found, is_missing, reads, printed, unless_memory, tree_is, handed_on, refused_memory}
use Rattle.read_commands.proofs.doc.DocCommandRefLine.serve.Goals as goal

pub returns-in_default : goal.returns-in_default
returns-in_default g c = in_full (reads (Err why.NoDatabase) (stops _ (is_missing why.NoDatabase (sym c.in_default.ensures))))

pub returns-in_err-id : goal.returns-in_err-id
returns-in_err-id g c = handed_on c.in_err-id.field-0.0 c.from_residual.result _ c.from_residual.ensures.1 (unless_memory _ c.in_err-id.ensures refl (λ e. reads (Err c.in_err-id.field-0.0) (passes _ (is_found why.NoDatabase (sym c.in-Some.ensures)) ∙ stops _ e)))

pub returns-in_err-named : goal.returns-in_err-named
returns-in_err-named g c = handed_on c.in_err-named.field-0.0 c.from_residual-in_err-named.result _ c.from_residual-in_err-named.ensures.1 (in_full (reads (Err c.in_err-named.field-0.0) (passes _ (is_found why.NoDatabase (sym c.in-Some.ensures)) ∙ passes _ c.in_ok-id.ensures ∙ stops _ (sym c.in_err-named.ensures))))

pub returns-in_default-tree : goal.returns-in_default-tree
returns-in_default-tree g c =
    let none = tree_is _ c.in-Some.peer.now.1 c.in_ok-id.id _ c.db.ensures.value c.in_default-tree.ensures.value in
    in_full (reads (Err why.NoSuchDocument) (passes _ (is_found why.NoDatabase (sym c.in-Some.ensures)) ∙ passes _ c.in_ok-id.ensures ∙ passes _ (sym c.in_ok-named.ensures) ∙ stops _ (is_missing why.NoSuchDocument none)))

pub returns-in_default-chosen : goal.returns-in_default-chosen
returns-in_default-chosen g c =
    let some = tree_is _ c.in-Some.peer.now.1 c.in_ok-id.id _ c.db.ensures.value c.in-Some-tree.ensures.value in
    in_full (reads (Err why.NoSuchRevision)
    (passes _ (is_found why.NoDatabase (sym c.in-Some.ensures)) ∙ passes _ c.in_ok-id.ensures ∙ passes _ (sym c.in_ok-named.ensures) ∙ passes _ (is_found why.NoSuchDocument some) ∙ stops _ (is_missing why.NoSuchRevision (sym c.in_default-chosen.ensures))))

pub returns-in_err-found : goal.returns-in_err-found
returns-in_err-found g c = refused_memory c.from_residual-in_err-found.result _ c.from_residual-in_err-found.ensures.1 gave_up

-- a revision of a document in the peer's database
at_peer : (base : DatabaseValue) (l : PeerValue) (id : List ℕ) (rev : RevId) (o : Option Document) → base ≡ l.db → o ≡ document_at base id rev → document_at l.db id rev ≡ o
at_peer base l id rev o e h = sym (h ∙ ap (λ (d : DatabaseValue). document_at d id rev) e)

pub returns-in_default-found : goal.returns-in_default-found
returns-in_default-found g c =
    let some = tree_is _ c.in-Some.peer.now.1 c.in_ok-id.id _ c.db.ensures.value c.in-Some-tree.ensures.value in
    let none = at_peer _ c.in-Some.peer.now.1 c.in_ok-id.id c.in-Some-chosen.rev None c.db-2.ensures.value (sym c.in_default-found.is ∙ c.in_ok-found.ensures.document) in
    in_full (reads (Err why.NoSuchRevision)
    (passes _ (is_found why.NoDatabase (sym c.in-Some.ensures)) ∙ passes _ c.in_ok-id.ensures ∙ passes _ (sym c.in_ok-named.ensures) ∙ passes _ (is_found why.NoSuchDocument some) ∙ passes _ (is_found why.NoSuchRevision (sym c.in-Some-chosen.ensures))
    ∙ stops _ (is_missing why.NoSuchRevision none)))

pub returns : goal.returns
returns g c =
    let some = tree_is _ c.in-Some.peer.now.1 c.in_ok-id.id _ c.db.ensures.value c.in-Some-tree.ensures.value in
    let document = at_peer _ c.in-Some.peer.now.1 c.in_ok-id.id c.in-Some-chosen.rev (Some c.in-Some-found.document) c.db-2.ensures.value (sym c.in-Some-found.is ∙ c.in_ok-found.ensures.document) in
    let text = printed c.in_ok-print.ensures c.requires.empty refl in
    in_full (reads (Ok c.print.new.answer.items)
    (passes _ (is_found why.NoDatabase (sym c.in-Some.ensures)) ∙ passes _ c.in_ok-id.ensures ∙ passes _ (sym c.in_ok-named.ensures) ∙ passes _ (is_found why.NoSuchDocument some) ∙ passes _ (is_found why.NoSuchRevision (sym c.in-Some-chosen.ensures))
    ∙ passes _ (is_found why.NoSuchRevision document) ∙ ap Ok (sym text)))

pub returns-in_err-print : goal.returns-in_err-print
returns-in_err-print g c = refused_memory c.from_residual-in_err-print.result _ c.from_residual-in_err-print.ensures.1 gave_up
