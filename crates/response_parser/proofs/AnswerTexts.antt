-- CouchDB responses are parsed as the documents in them.
use Rattle.proof_prelude.proofs.{◌≡◌, ℕ, ◌+◌, ◌<◌, ◌==◌, ◌&&◌, nat_lt, List, [], ◌∷◌, ◌++◌, Bool, true, false, cond, refl, sym, ap, subst, ◌∙◌, append-nil, append_assoc, arith, inl, inr}
use Rattle.doc_envelope.specs.{Spaces, has_id, is_json}
use Rattle.response_parser.specs.{wants_documents, is_strict, start, is_plain, after, pieces, Piece, IsValue, IsNamed, Holds, document, IsObject, no_members, with_members, itself, IsMembers, last_value, value, last_list, IsList, no_items, with_items, IsItems, last_item, item, AreAnswers, no_more, of_object, of_list, IsAnswered, object_first, list_first, Place, Name}
use Rattle.response_parser.specs.{covered, AreDocs, IsDoc, IsDocs, IsLateDocument, doc, first_id, last_doc, last_docs, late_id, no_docs, no_id, no_names, with_docs}
use Rattle.response_parser.specs.State.{State}
use Rattle.response_parser.specs.Grammar as grammar
use Rattle.response_parser.specs.declared.place.Place.TheVariants.{Start, Begin, Between, AfterItem, AfterMember, List as ListPlace, Value}
use Rattle.response_parser.specs.declared.place.Wanted.{Wanted}
use Rattle.response_parser.specs.declared.place.Name.TheVariants as names
use Rattle.response_parser.specs.declared.place.Found.TheVariants as found
use Rattle.response_parser.proofs.Bytes.{At, AtIn, Within, listing, outer, Leads1, Steps, BeginsKey, BeforeObject, o_start, o_between, o_item, o_next, BeforeList, l_start, l_between, l_list, s_start, s_between, s_item, s_next_item, s_after_item, s_member, s_next_member, s_after_member, s_colon, s_list, no_leaves, no_changes, closed_at, opens_object, opens_list, closes_empty, closes_object, closes_no_items, closes_list, item_comma, member_comma, list_colon, first_key, next_key, value_colon, ends_comma, ends_brace, opens_docs, closes_docs, closes_no_docs, doc_comma, docs_colon, key_itself, late_ends, no_id_ends}
use Rattle.response_parser.proofs.Texts.{Leads, none_read, nonempty, then, then_held, joined, key_to, pieces_to, spaces, spaces_in, lead_spaces, key, text_to, value_text}
use Rattle.response_parser.proofs.Itself.{a_document}

to_place : {w : Wanted} {P : State → Type 0} {p q : Place} {d : ℕ} {t : List ℕ} {ps : List Piece} → p ≡ q → Leads P t (At w p d) ps → Leads P t (At w q d) ps
to_place {w} {P} {d = d} {t} {ps} e f = subst (λ z. Leads P t (At w z d) ps) e f

few : (d : ℕ) → d < 8 → nat_lt d 8 ≡ true
few d h = grind arith

inner_less : (d : ℕ) → nat_lt 1 ((d + 1) + 1) ≡ true
inner_less d = grind arith

-- within a list or an object
inner_closed : (n d : ℕ) (p : Place) → n ≡ d + 1 → closed_at n p ≡ p
inner_closed n d p e = ap (λ z. closed_at z p) e ∙ ap (λ b. cond b p Between) (inner_less d)

not_plain : {w : Wanted} {name : Name} {u : List ℕ} {ps : List Piece} → Holds w name u ps → is_plain name ≡ false
not_plain (document e c) = refl
not_plain _ = refl

outside : (b : Bool) → b ≡ false → (0 == 0 && b) ≡ false
outside b h = h

-- ---- an item of `docs` whose first member is not `_id`

module _ (w : Wanted) (o u : List ℕ) where
  abbrev late_front : IsLateDocument w o u → List ℕ
  late_front h = (123 ∷ 34 ∷ h.key) ++ h.line

  late_text : (h : IsLateDocument w o u) → late_front h ++ 125 ∷ [] ≡ u
  late_text h = append_assoc (123 ∷ 34 ∷ h.key) h.line (125 ∷ []) ∙ sym h.text

  -- up to its brace
  late_brace : {p : Place} → BeforeObject p → (h : IsLateDocument w o u) → {Q : State → Type 0} {ps : List Piece}
      → Leads (Within (listing w true) (Value names.Item) 3 1 (late_front h)) (125 ∷ []) Q ps → Leads (AtIn (listing w true) p 2) o Q ps
  late_brace before h brace =
      text_to (sym h.object) (then (opens_object w true 2 before refl) (joined (spaces_in (listing w true) 3 h.before s_member h.spaces)
      (joined (key_to (listing w true) true 3 names.Item (λ x. Within (listing w true) (Value names.Item) 3 1 (123 ∷ x)) (λ x json says. key_itself w true 3 x json true names.Item refl says) h.key (first_key (listing w true) 3) h.string h.name h.says)
      (joined (value_text (listing w true) names.Item 3 1 (123 ∷ 34 ∷ h.key) h.behind h.line refl h.closed (inl (nonempty (123 ∷ []) 34 h.key))) brace))))

module _ (w : Wanted) (docs : wants_documents w ≡ true) (lenient : is_strict w ≡ false) where
  -- a name and its colon, with white space around it
  list_named : {p : Place} (f : Bool) (n : ℕ) (k s s' : List ℕ) → BeginsKey (outer w) p f n → IsNamed w f n k names.List → Spaces s → Spaces s' → {t : List ℕ} {Q : State → Type 0} {ps : List Piece}
      → Leads (At w ListPlace n) t Q ps → Leads (At w p n) (34 ∷ (k ++ (s ++ 58 ∷ (s' ++ t)))) Q ps
  list_named f n k s s' begins named h h' g =
      joined (key w docs f n names.List refl k begins named) (joined (spaces w n s s_colon h) (then (list_colon w n (no_leaves w docs)) (joined (spaces w n s' s_list h') g)))

  value_named : {p : Place} (f : Bool) (n : ℕ) (k s s' t u : List ℕ) (name : Name) (ps : List Piece) → BeginsKey (outer w) p f n → IsNamed w f n k name → Holds w name u ps → Spaces s → Spaces s' → IsValue t u → {more : List ℕ} {Q : State → Type 0} {qs : List Piece}
      → Leads (Within (outer w) (Value name) n 0 u) more Q qs → Leads (At w p n) (34 ∷ (k ++ (s ++ 58 ∷ (s' ++ (t ++ more))))) Q qs
  value_named f n k s s' t u name ps begins named holds h h' v g =
      joined (key w docs f n name (not_plain holds) k begins named) (joined (spaces w n s s_colon h) (then (value_colon w (no_leaves w docs) n holds)
      (joined (lead_spaces (outer w) name n s' h') (joined (value_text (outer w) name n 0 [] t u (outside (is_plain name) (not_plain holds)) v.closed (inr v.first)) g))))

  -- ---- the list `docs` of an outermost object

  docs_named : {p : Place} (f : Bool) (k s s' : List ℕ) → BeginsKey (outer w) p f 1 → IsNamed w f 1 k names.Docs → Spaces s → Spaces s' → {t : List ℕ} {Q : State → Type 0} {ps : List Piece}
      → Leads (AtIn (listing w true) ListPlace 1) t Q ps → Leads (At w p 1) (34 ∷ (k ++ (s ++ 58 ∷ (s' ++ t)))) Q ps
  docs_named f k s s' begins named h h' g =
      joined (key w docs f 1 names.Docs refl k begins named) (joined (spaces w 1 s s_colon h) (then (docs_colon w (no_leaves w docs)) (joined (spaces_in (listing w true) 1 s' s_list h') g)))

  a_doc : {p : Place} (o : List ℕ) (ps : List Piece) → BeforeObject p → IsDoc w o ps → Leads (AtIn (listing w true) p 2) o (AtIn (listing w true) AfterItem 2) ps
  a_doc o ps before (first_id h) = a_document w (no_leaves w docs) true 2 o ps docs before refl h
  a_doc o ps before (late_id {u} {v} h e c) =
      let u_is = late_text w o u h in
      late_brace w o u before h (then_held ((found.Document, v) ∷ []) (late_ends w 2 (late_front w o u h) (ap is_json u_is ∙ h.json) v (ap has_id u_is ∙ e) (ap (covered w) u_is ∙ c)) none_read)
  a_doc o ps before (no_id {u} h e) =
      let u_is = late_text w o u h in
      late_brace w o u before h (then (no_id_ends w 2 (late_front w o u h) (ap is_json u_is ∙ h.json) lenient (ap has_id u_is ∙ e)) none_read)
  a_doc o ps before (no_names s blanks) =
      then (opens_object w true 2 before refl) (joined (spaces_in (listing w true) 3 s s_member blanks) (then (closes_empty w true 2 (no_leaves w docs) lenient) none_read))

  all_docs : {p : Place} (t : List ℕ) (ps : List Piece) → BeforeObject p → AreDocs w t ps → Leads (AtIn (listing w true) p 2) t (At w AfterMember 1) ps
  all_docs text ps before (last_doc {o} s inside h) =
      pieces_to (append-nil ps) (joined (a_doc o ps before inside) (joined (spaces_in (listing w true) 2 s s_after_item h) (then (closes_docs w) none_read)))
  all_docs text ps before (doc {o} s s' {more} {ps = ins} {qs} inside h h' m) =
      joined (a_doc o ins before inside) (joined (spaces_in (listing w true) 2 s s_after_item h)
      (then (doc_comma w) (joined (spaces_in (listing w true) 2 s' s_next_item h') (all_docs more qs o_next m))))

  some_docs : (l : List ℕ) (ps : List Piece) → IsDocs w l ps → Leads (AtIn (listing w true) ListPlace 1) l (At w AfterMember 1) ps
  some_docs l ps (no_docs s blanks) = then (opens_docs w) (joined (spaces_in (listing w true) 2 s s_item blanks) (then (closes_no_docs w) none_read))
  some_docs l ps (with_docs s {t} blanks m) = then (opens_docs w) (joined (spaces_in (listing w true) 2 s s_item blanks) (all_docs t ps o_item m))

  mutual
    an_object : {p : Place} (d : ℕ) (o : List ℕ) (ps : List Piece) → BeforeObject p → IsObject w d o ps → Leads (At w p d) o (At w (closed_at d AfterItem) d) ps
    an_object d o ps before (no_members s h blanks) =
        then (opens_object w false d before (few d h)) (joined (spaces w (d + 1) s s_member blanks) (then (closes_empty w false d (no_leaves w docs) lenient) none_read))
    an_object d o ps before (with_members s {t} h blanks m) =
        then (opens_object w false d before (few d h)) (joined (spaces w (d + 1) s s_member blanks) (some_members true (d + 1) d refl t ps (first_key (outer w) (d + 1)) m))
    an_object d o ps before (itself h m) = a_document w (no_leaves w docs) false d o ps docs before (few d h) m

    some_members : {p : Place} (f : Bool) (n d : ℕ) → n ≡ d + 1 → (t : List ℕ) (ps : List Piece) → BeginsKey (outer w) p f n → IsMembers w f n t ps → Leads (At w p n) t (At w (closed_at d AfterItem) d) ps
    some_members f n d e text ps begins (last_value {k} s s' {t} {u} {name} named of h h' v) =
        let brace = subst (λ z. Leads1 (Within (outer w) (Value name) z 0 u) 125 (At w (closed_at d AfterItem) d) ps) (sym e) (ends_brace w d u v.json lenient of) in
        value_named f n k s s' t u name ps begins named of h h' v (pieces_to (append-nil ps) (then_held ps brace none_read))
    some_members f n d e text ps begins (value {k} s s' s'' {t} {u} {more} {name} {ps = ins} {qs} named of h h' v h'' m) =
        value_named f n k s s' t u name ins begins named of h h' v
        (then_held ins (ends_comma w n u v.json of) (joined (spaces w n s'' s_next_member h'') (some_members false n d e more qs (next_key (outer w) n) m)))
    some_members f n d e text ps begins (last_list {k} s s' s'' {l} named h h' inside h'') =
        let brace = subst (λ z. Steps w AfterMember z 125 (closed_at d AfterItem) d []) (sym e) (closes_object w d lenient) in
        list_named f n k s s' begins named h h' (pieces_to (append-nil ps)
        (joined (to_place (inner_closed n d AfterMember e) (a_list n l ps l_list inside)) (joined (spaces w n s'' s_after_member h'') (then brace none_read))))
    some_members f n d e text ps begins (grammar.list {k} s s' s'' s''' {l} {more} {ps = ins} {qs} named h h' inside h'' h''' m) =
        list_named f n k s s' begins named h h'
        (joined (to_place (inner_closed n d AfterMember e) (a_list n l ins l_list inside)) (joined (spaces w n s'' s_after_member h'')
        (then (member_comma w n) (joined (spaces w n s''' s_next_member h''') (some_members false n d e more qs (next_key (outer w) n) m)))))
    some_members f n d e text ps begins (last_docs {k} s s' s'' {l} named h h' inside h'') =
        let brace = subst (λ z. Steps w AfterMember z 125 (closed_at d AfterItem) d []) (sym e) (closes_object w d lenient) in
        docs_named f k s s' begins named h h' (pieces_to (append-nil ps)
        (joined (some_docs l ps inside) (joined (spaces w 1 s'' s_after_member h'') (then brace none_read))))
    some_members f n d e text ps begins (grammar.docs {k} s s' s'' s''' {l} {more} {ps = ins} {qs} named h h' inside h'' h''' m) =
        docs_named f k s s' begins named h h'
        (joined (some_docs l ins inside) (joined (spaces w 1 s'' s_after_member h'')
        (then (member_comma w 1) (joined (spaces w 1 s''' s_next_member h''') (some_members false 1 d e more qs (next_key (outer w) 1) m)))))

    a_list : {p : Place} (d : ℕ) (l : List ℕ) (ps : List Piece) → BeforeList p → IsList w d l ps → Leads (At w p d) l (At w (closed_at d AfterMember) d) ps
    a_list d l ps before (no_items s h blanks) =
        then (opens_list w d before (no_changes w docs) (few d h)) (joined (spaces w (d + 1) s s_item blanks) (then (closes_no_items w d) none_read))
    a_list d l ps before (with_items s {t} h blanks m) =
        then (opens_list w d before (no_changes w docs) (few d h)) (joined (spaces w (d + 1) s s_item blanks) (some_items (d + 1) d refl t ps o_item m))

    some_items : {p : Place} (n d : ℕ) → n ≡ d + 1 → (t : List ℕ) (ps : List Piece) → BeforeObject p → IsItems w n t ps → Leads (At w p n) t (At w (closed_at d AfterMember) d) ps
    some_items n d e text ps before (last_item {o} s inside h) =
        let bracket = subst (λ z. Steps w AfterItem z 93 (closed_at d AfterMember) d []) (sym e) (closes_list w d) in
        pieces_to (append-nil ps) (joined (to_place (inner_closed n d AfterItem e) (an_object n o ps before inside)) (joined (spaces w n s s_after_item h) (then bracket none_read)))
    some_items n d e text ps before (item {o} s s' {more} {ps = ins} {qs} inside h h' m) =
        joined (to_place (inner_closed n d AfterItem e) (an_object n o ins before inside)) (joined (spaces w n s s_after_item h)
        (then (item_comma w n) (joined (spaces w n s' s_next_item h') (some_items n d e more qs o_next m))))

  -- ---- responses

  some_answers : (t : List ℕ) (ps : List Piece) → AreAnswers w t ps → Leads (At w Between 0) t (At w Between 0) ps
  some_answers t ps (no_more h) = spaces w 0 t s_between h
  some_answers t ps (of_object s {o} {more} {ps = ins} {qs} h inside m) = joined (spaces w 0 s s_between h) (joined (an_object 0 o ins o_between inside) (some_answers more qs m))
  some_answers t ps (of_list s {l} {more} {ps = ins} {qs} h inside m) = joined (spaces w 0 s s_between h) (joined (a_list 0 l ins l_between inside) (some_answers more qs m))

  all_answers : (t : List ℕ) (ps : List Piece) → IsAnswered w t ps → Leads (At w Start 0) t (At w Between 0) ps
  all_answers t ps (object_first s {o} {more} {ps = ins} {qs} h inside m) = joined (spaces w 0 s s_start h) (joined (an_object 0 o ins o_start inside) (some_answers more qs m))
  all_answers t ps (list_first s {l} {more} {ps = ins} {qs} h inside m) = joined (spaces w 0 s s_start h) (joined (a_list 0 l ins l_start inside) (some_answers more qs m))

starts : (w : Wanted) → is_strict w ≡ false → At w Start 0 (start w)
starts w h = record { wanted = refl; inner = refl; named = refl; place = ap (λ b. cond b Begin Start) h; depth = refl; diff = refl }

-- responses are parsed to their end, as the documents in them
pub answers_read : (w : Wanted) → wants_documents w ≡ true → is_strict w ≡ false → (t : List ℕ) (ps : List Piece) → IsAnswered w t ps → ((after (start w) t).place ≡ Between) × (pieces (start w) t ≡ ps)
answers_read w docs lenient t ps h =
    let run = (all_answers w docs lenient t ps h).runs (start w) (starts w lenient) in
    (run.0.place, run.1)
