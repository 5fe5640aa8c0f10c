-- Defines documents, as specified in docs/PROFILE.md, "Documents".
use Rattle.std.specs.Prelude.{◌≡◌, ℕ, Bool, List, Ok, refl}
use Rattle.std.specs.Coded.{Coded, code_by, coded×, coded_ℕ, coded_bool, coded_list}
use Rattle.rev_core.specs.Rev.{RevId}
use Rattle.rev_core.specs.RevOrder.{coded_rev}
use Rattle.rev_core.specs.Ancestry.{IsAncestry}
use Rattle.doc_json.specs.DocId.{doc_id_read}
use Rattle.doc_json.specs.Body.{IsBody}

-- A document: its id, its ancestry (newest first), whether it is deleted, and its serialized body.
pub record Document : Type 0 where
  pub id : List ℕ
  pub ancestry : List RevId
  pub deleted : Bool
  pub body : List ℕ

abbrev pub coded_doc : Coded Document
coded_doc =
    code_by (List ℕ × (List RevId × (Bool × List ℕ)))
    (coded× (coded_list coded_ℕ) (coded× (coded_list coded_rev) (coded× coded_bool (coded_list coded_ℕ))))
    (λ d. (d.id, (d.ancestry, (d.deleted, d.body))))
    (λ p. record { id = p.0; ancestry = p.1.0; deleted = p.1.1.0; body = p.1.1.1 }) (λ _. refl)

-- The invariant of a document: the document's id, ancestry and body are valid.
pub record IsDocument (d : Document) : Type 0 where
  pub id : doc_id_read d.id ≡ Ok d.id
  pub ancestry : IsAncestry d.ancestry
  pub body : IsBody d.body
