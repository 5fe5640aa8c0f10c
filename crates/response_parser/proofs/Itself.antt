-- An object whose first member is `_id` is parsed as a document.
use Rattle.proof_prelude.proofs.{◌≡◌, ℕ, ◌+◌, ◌==◌, ◌&&◌, nat_lt, List, [], ◌∷◌, ◌++◌, Bool, true, false, codes, refl, sym, ap, ◌∙◌, append_assoc, inl, and_right, is_utf8-from_IsUtf8}
use Rattle.json.proofs.Printed.Utf8.{IsUtf8-are_ascii}
use Rattle.json.proofs.OnLiterals.{json_on_literals}
use Rattle.doc_envelope.specs.{is_json, is_log}
use Rattle.response_parser.specs.{wants_documents, wants_leaves, covered, name_of, Piece, IsPlainDocument, IsDocument, document, log, Place}
use Rattle.response_parser.specs.State.{State}
use Rattle.response_parser.specs.declared.place.Place.TheVariants.{AfterItem, Value}
use Rattle.response_parser.specs.declared.place.Wanted.{Wanted}
use Rattle.response_parser.specs.declared.place.Wanted.TheVariants.{Leaves}
use Rattle.response_parser.specs.declared.place.Name.TheVariants as names
use Rattle.response_parser.specs.declared.place.Found.TheVariants as found
use Rattle.response_parser.proofs.Bytes.{AtIn, Within, listing, BeforeObject, closed_at, opens_object, s_member, first_key, key_plain, key_itself, itself_ends, log_ends, unwanted_ends}
use Rattle.response_parser.proofs.Texts.{Leads, none_read, then, then_held, joined, text_to, spaces_in, value_text}

-- `"_id"`
abbrev id_key : List ℕ
id_key = 34 ∷ 95 ∷ 105 ∷ 100 ∷ 34 ∷ []

id_is_json : is_json id_key ≡ true
id_is_json = unfold json_on_literals in ap (λ b. b && true) (is_utf8-from_IsUtf8 id_key (IsUtf8-are_ascii id_key refl))

-- the first name of an object says that the object is a document
pub id_name : (w : Wanted) → wants_leaves w ≡ false → (d : ℕ) (inner : Bool) → name_of w true inner false d id_key ≡ names.Plain
id_name Leaves h d inner = unfold name_of in absurd (cc)
id_name _ h d true = unfold name_of in rw (and_right (d == 1) false refl)
id_name _ h d false = unfold name_of in rw (and_right (d == 1) false refl)

module _ (w : Wanted) (leaves : wants_leaves w ≡ false) (l : Bool) (d : ℕ) where
  -- up to its brace
  before_brace : {p : Place} (o u : List ℕ) → BeforeObject p → nat_lt d 8 ≡ true → (h : IsPlainDocument o u) → {Q : State → Type 0} {ps : List Piece}
      → Leads (Within (listing w l) (Value names.Plain) (d + 1) 1 (codes "{\"_id\"" ++ h.line)) (125 ∷ []) Q ps → Leads (AtIn (listing w l) p d) o Q ps
  before_brace o u before few h brace =
      text_to (sym h.object) (then (opens_object w l d before few) (joined (spaces_in (listing w l) (d + 1) h.before s_member h.spaces)
      (then (first_key (listing w l) (d + 1)) (then (key_plain (listing w l) true (d + 1) (34 ∷ []) 95 refl refl) (then (key_plain (listing w l) true (d + 1) (34 ∷ 95 ∷ []) 105 refl refl) (then (key_plain (listing w l) true (d + 1) (34 ∷ 95 ∷ 105 ∷ []) 100 refl refl)
      (then (key_itself w true (d + 1) (34 ∷ 95 ∷ 105 ∷ 100 ∷ []) id_is_json l names.Plain refl (id_name w leaves (d + 1) l))
      (joined (value_text (listing w l) names.Plain (d + 1) 1 (codes "{\"_id\"") h.behind h.line refl h.closed (inl refl)) brace))))))))

  pub a_document : {p : Place} (o : List ℕ) (ps : List Piece) → wants_documents w ≡ true → BeforeObject p → nat_lt d 8 ≡ true → IsDocument w o ps → Leads (AtIn (listing w l) p d) o (AtIn (listing w l) (closed_at d AfterItem) d) ps
  a_document o ps docs before few (document {u} {v} h e c) =
      let u_is = append_assoc (codes "{\"_id\"") h.line (125 ∷ []) ∙ sym h.text in
      before_brace o u before few h (then_held ((found.Document, v) ∷ []) (itself_ends w l d (codes "{\"_id\"" ++ h.line) (ap is_json u_is ∙ h.json) v docs (ap is_log u_is ∙ e) (ap (covered w) u_is ∙ c)) none_read)
  a_document o ps docs before few (log {u} h e) =
      let u_is = append_assoc (codes "{\"_id\"") h.line (125 ∷ []) ∙ sym h.text in
      before_brace o u before few h (then (log_ends w l d (codes "{\"_id\"" ++ h.line) (ap is_json u_is ∙ h.json) docs (ap is_log u_is ∙ e)) none_read)

  -- if no documents are requested
  pub unwanted : {p : Place} (o u : List ℕ) → wants_documents w ≡ false → BeforeObject p → nat_lt d 8 ≡ true → IsPlainDocument o u → Leads (AtIn (listing w l) p d) o (AtIn (listing w l) (closed_at d AfterItem) d) []
  unwanted o u docs before few h =
      let u_is = append_assoc (codes "{\"_id\"") h.line (125 ∷ []) ∙ sym h.text in
      before_brace o u before few h (then (unwanted_ends w l d (codes "{\"_id\"" ++ h.line) (ap is_json u_is ∙ h.json) docs) none_read)
