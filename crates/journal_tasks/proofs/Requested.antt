-- The documents of a request, after one line more of the request or of the response.
use Rattle.proof_prelude.proofs.{◌≡◌, ℕ, Bool, true, false, ◌||◌, ◌&&◌, not, if◌then◌else◌, List, [], ◌∷◌, ◌++◌, map, filter, Option, None, Some, option_map, is_some, bytes_eq, inl, inr, refl, sym, ap, ap₂, ◌∙◌, fun_ext, cases_Bool, cond-true, cond-false, or_parts, or_left, or_right, or-false, and-false, list_any, list_any-append, flat_map-append, map-append, append-nil, bytes_eq-Decides, arith, common_steps, Global, String, string_bytes, HashMap, UpdatesBy, cond, hash_map_updates_text}
use Rattle.std.specs.String.{string_eq}
use Rattle.indexmap.specs.IndexSet.{insert_key}
use Rattle.std.proofs.lemmas.List.Sums.{fold-append}
use Rattle.journal_lines.specs.Docs.{add_rev}
use Rattle.journal_lines.specs.Entries.{EntryView, state, lacks, leaf, wrong}
use Rattle.journal_lines.specs.Leafs.{HeadView, knows_rev}
use Rattle.journal_lines.specs.Lists.{LeavesView, texts_of}
use Rattle.journal_tasks.specs.Receiving.{DocView, WantedView, answered_by, doc_at, doc_of, doc_or_new, doc_view, head_of, is_answer, is_marked, is_received, is_requested, is_stored, leaf_at, missing_in, named, received_by, received_leaves, requested_by, unmarked, wanted_at, wanted_revs, with_leaf, with_wanted}
use Rattle.journal_tasks.specs.declared.received.Doc.{Doc}

abbrev marks : List HeadView → List ℕ → List (List ℕ) → List WantedView
marks heads id revs = map (λ rev. (rev, is_received heads id rev)) revs

abbrev doc_by : Bool → List (List ℕ) → List HeadView → List ℕ → Option DocView
doc_by b revs heads id = if b then Some (marks heads id revs, received_leaves heads id) else None

same_id : (a id : List ℕ) → bytes_eq a id ≡ true → a ≡ id
same_id a id h = (bytes_eq-Decides a id).0 h

-- ---- one line of the request

requested_push : (req : List LeavesView) (l : LeavesView) (id : List ℕ) → is_requested (req ++ l ∷ []) id ≡ (is_requested req id || bytes_eq l.1 id)
requested_push req l id = list_any-append (λ (z : LeavesView). bytes_eq z.1 id) req (l ∷ []) ∙ ap (λ b. is_requested req id || b) (or-false (bytes_eq l.1 id))

revs_push : (req : List LeavesView) (l : LeavesView) (id : List ℕ) → wanted_revs (req ++ l ∷ []) id ≡ wanted_revs req id ++ (if bytes_eq l.1 id then l.2 else [])
revs_push req l id =
    flat_map-append (λ (z : LeavesView). if bytes_eq z.1 id then z.2 else []) req (l ∷ []) ∙ ap (λ z. wanted_revs req id ++ z) (append-nil (if bytes_eq l.1 id then l.2 else []))

unrequested : (req : List LeavesView) (id : List ℕ) → is_requested req id ≡ false → wanted_revs req id ≡ []
unrequested [] id h = refl
unrequested (l ∷ req) id h =
    let p = or_parts (bytes_eq l.1 id) (is_requested req id) h in
    ap (λ z. z ++ wanted_revs req id) (cond-false (bytes_eq l.1 id) l.2 [] p.0) ∙ unrequested req id p.1

doc_new : (req : List LeavesView) (id : List ℕ) → doc_or_new (doc_of req [] id) ≡ (marks [] id (wanted_revs req id), [])
doc_new req id =
    elim (cases_Bool (is_requested req id)) [
      | inl hit ↦ ap (λ b. doc_or_new (doc_by b (wanted_revs req id) [] id)) hit
      | inr miss ↦ ap (λ b. doc_or_new (doc_by b (wanted_revs req id) [] id)) miss ∙ ap (λ z. (marks [] id z, [])) (sym (unrequested req id miss))
    ]

wanted_push : (req : List LeavesView) (l : LeavesView) (id : List ℕ) → doc_of (req ++ l ∷ []) [] id ≡ wanted_at l (doc_of req []) id
wanted_push req l id =
    let added = λ (b : Bool). if b then l.2 else [] in
    let before : doc_of (req ++ l ∷ []) [] id ≡ doc_by (is_requested req id || bytes_eq l.1 id) (wanted_revs req id ++ added (bytes_eq l.1 id)) [] id =
    ap (λ b. doc_by b (wanted_revs (req ++ l ∷ []) id) [] id) (requested_push req l id) ∙ ap (λ z. doc_by (is_requested req id || bytes_eq l.1 id) z [] id) (revs_push req l id) in
    elim (cases_Bool (bytes_eq l.1 id)) [
      | inl hit ↦ before ∙ ap (λ b. doc_by b (wanted_revs req id ++ added (bytes_eq l.1 id)) [] id) (or_right (is_requested req id) (bytes_eq l.1 id) hit) ∙ ap (λ b. doc_by true (wanted_revs req id ++ added b) [] id) hit
          ∙ ap (λ z. Some (z, [])) (map-append (λ rev. (rev, false)) (wanted_revs req id) l.2) ∙ ap (λ (d : DocView). Some (with_wanted l.2 d)) (sym (doc_new req id))
          ∙ ap (λ z. Some (with_wanted l.2 (doc_or_new (doc_of req [] z)))) (sym (same_id l.1 id hit)) ∙ sym (cond-true (bytes_eq l.1 id) (Some (with_wanted l.2 (doc_or_new (doc_of req [] l.1)))) (doc_of req [] id) hit)
      | inr miss ↦ before ∙ ap (λ b. doc_by (is_requested req id || b) (wanted_revs req id ++ added b) [] id) miss ∙ ap (λ b. doc_by b (wanted_revs req id ++ []) [] id) (or-false (is_requested req id)) ∙ ap (λ z. doc_by (is_requested req id) z [] id) (append-nil (wanted_revs req id))
          ∙ sym (cond-false (bytes_eq l.1 id) (Some (with_wanted l.2 (doc_or_new (doc_of req [] l.1)))) (doc_of req [] id) miss)
    ]

pub request_docs : (req : List LeavesView) (e : EntryView) (id : List ℕ) → doc_of (req ++ named e) [] id ≡ requested_by e (doc_of req []) id
request_docs req (state leaves) id = wanted_push req leaves id
request_docs req (lacks leaves) id = wanted_push req leaves id
request_docs req (leaf head) id = ap (λ z. doc_of z [] id) (append-nil req)
request_docs req wrong id = ap (λ z. doc_of z [] id) (append-nil req)

-- ---- one line of the response

any_text : (ks : List (String Global)) (k : String Global) → list_any (string_eq k) ks ≡ list_any (bytes_eq (string_bytes k)) (texts_of ks)
any_text [] k = refl
any_text (x ∷ ks) k = ap (λ b. bytes_eq (string_bytes k) (string_bytes x) || b) (any_text ks k)

-- the revisions of a set after an insertion
pub texts_added : (ks : List (String Global)) (k : String Global) → texts_of (insert_key string_eq ks k) ≡ add_rev (texts_of ks) (string_bytes k)
texts_added ks k =
    elim (cases_Bool (list_any (string_eq k) ks)) [
      | inl hit ↦ rw (sym (any_text ks k), hit) refl
      | inr miss ↦ rw (sym (any_text ks k), miss) (grind (arith, common_steps))
    ]

received_push : (heads : List HeadView) (h : HeadView) (id rev : List ℕ) → is_received (heads ++ h ∷ []) id rev ≡ (is_received heads id rev || bytes_eq h.0 id && knows_rev h.1 rev)
received_push heads h id rev =
    list_any-append (λ (z : HeadView). bytes_eq z.0 id && knows_rev z.1 rev) heads (h ∷ []) ∙ ap (λ b. is_received heads id rev || b) (or-false (bytes_eq h.0 id && knows_rev h.1 rev))

leaves_push : (heads : List HeadView) (h : HeadView) (id : List ℕ) → received_leaves (heads ++ h ∷ []) id ≡ (if bytes_eq h.0 id then add_rev (received_leaves heads id) h.1.0 else received_leaves heads id)
leaves_push heads h id = fold-append (λ (revs : List (List ℕ)) (z : HeadView). if bytes_eq z.0 id then add_rev revs z.1.0 else revs) [] heads (h ∷ [])

marks_kept : (heads : List HeadView) (h : HeadView) (id : List ℕ) → bytes_eq h.0 id ≡ false → (revs : List (List ℕ)) → marks (heads ++ h ∷ []) id revs ≡ marks heads id revs
marks_kept heads h id miss revs =
    ap (λ (f : List ℕ → Bool). map (λ rev. (rev, f rev)) revs) (fun_ext (λ rev. received_push heads h id rev ∙ ap (λ b. is_received heads id rev || b && knows_rev h.1 rev) miss ∙ or-false (is_received heads id rev)))

marks_more : (heads : List HeadView) (h : HeadView) (id : List ℕ) → bytes_eq h.0 id ≡ true → (revs : List (List ℕ)) → marks (heads ++ h ∷ []) id revs ≡ map (received_by h.1) (marks heads id revs)
marks_more heads h id hit [] = refl
marks_more heads h id hit (rev ∷ revs) =
    ap₂ (λ (b : Bool) (z : List WantedView). (rev, b) ∷ z) (received_push heads h id rev ∙ ap (λ b. is_received heads id rev || b && knows_rev h.1 rev) hit) (marks_more heads h id hit revs)

by_leaf : (b : Bool) (revs : List (List ℕ)) (heads : List HeadView) (h : HeadView) (id : List ℕ) → bytes_eq h.0 id ≡ true → doc_by b revs (heads ++ h ∷ []) id ≡ option_map (with_leaf h.1) (doc_by b revs heads id)
by_leaf false revs heads h id hit = refl
by_leaf true revs heads h id hit =
    ap (λ z. Some (z, received_leaves (heads ++ h ∷ []) id)) (marks_more heads h id hit revs)
    ∙ ap (λ z. Some (map (received_by h.1) (marks heads id revs), z)) (leaves_push heads h id ∙ cond-true (bytes_eq h.0 id) (add_rev (received_leaves heads id) h.1.0) (received_leaves heads id) hit)

leaf_push : (req : List LeavesView) (heads : List HeadView) (h : HeadView) (id : List ℕ) → doc_of req (heads ++ h ∷ []) id ≡ leaf_at h (doc_of req heads) id
leaf_push req heads h id =
    elim (cases_Bool (bytes_eq h.0 id)) [
      | inl hit ↦ by_leaf (is_requested req id) (wanted_revs req id) heads h id hit ∙ ap (λ z. option_map (with_leaf h.1) (doc_of req heads z)) (sym (same_id h.0 id hit))
          ∙ sym (cond-true (bytes_eq h.0 id) (option_map (with_leaf h.1) (doc_of req heads h.0)) (doc_of req heads id) hit)
      | inr miss ↦ ap (λ z. if is_requested req id then Some (z, received_leaves (heads ++ h ∷ []) id) else None) (marks_kept heads h id miss (wanted_revs req id))
          ∙ ap (λ z. if is_requested req id then Some (marks heads id (wanted_revs req id), z) else None) (leaves_push heads h id ∙ cond-false (bytes_eq h.0 id) (add_rev (received_leaves heads id) h.1.0) (received_leaves heads id) miss)
          ∙ sym (cond-false (bytes_eq h.0 id) (option_map (with_leaf h.1) (doc_of req heads h.0)) (doc_of req heads id) miss)
    ]

pub response_docs : (req : List LeavesView) (heads : List HeadView) (e : EntryView) (id : List ℕ) → doc_of req (heads ++ head_of e) id ≡ answered_by e (doc_of req heads) id
response_docs req heads (state leaves) id = ap (λ z. doc_of req z id) (append-nil heads)
response_docs req heads (lacks leaves) id = ap (λ z. doc_of req z id) (append-nil heads)
response_docs req heads (leaf head) id = leaf_push req heads head id
response_docs req heads wrong id = ap (λ z. doc_of req z id) (append-nil heads)

is_some_by : (b : Bool) (revs : List (List ℕ)) (heads : List HeadView) (id : List ℕ) → is_some (doc_by b revs heads id) ≡ b
is_some_by true revs heads id = refl
is_some_by false revs heads id = refl

pub answer_stored : (req : List LeavesView) (heads : List HeadView) (e : EntryView) → is_stored e (doc_of req heads) ≡ is_answer req e
answer_stored req heads (state leaves) = refl
answer_stored req heads (lacks leaves) = refl
answer_stored req heads (leaf head) = is_some_by (is_requested req head.0) (wanted_revs req head.0) heads head.0
answer_stored req heads wrong = refl

-- ---- the end

marked_is : (heads : List HeadView) (id : List ℕ) (ws : List (List ℕ)) (rev : List ℕ) → is_marked (marks heads id ws) rev ≡ (list_any (λ w. bytes_eq w rev) ws && is_received heads id rev)
marked_is heads id [] rev = refl
marked_is heads id (w ∷ ws) rev =
    let p = is_received heads id in
    let any = list_any (λ z. bytes_eq z rev) ws in
    elim (cases_Bool (bytes_eq w rev)) [
      | inl hit ↦ ap (λ b. p w && b || is_marked (marks heads id ws) rev) hit ∙ ap (λ z. p z && true || is_marked (marks heads id ws) rev) (same_id w rev hit) ∙ ap (λ z. p rev && true || z) (marked_is heads id ws rev)
          ∙ hit_or (p rev) any ∙ ap (λ b. (b || any) && p rev) (sym hit)
      | inr miss ↦ ap (λ b. p w && b || is_marked (marks heads id ws) rev) miss ∙ ap (λ b. b || is_marked (marks heads id ws) rev) (and-false (p w)) ∙ marked_is heads id ws rev ∙ ap (λ b. (b || any) && p rev) (sym miss)
    ] where
      hit_or : (a b : Bool) → (a && true || b && a) ≡ ((true || b) && a)
      hit_or true b = refl
      hit_or false true = refl
      hit_or false false = refl

filter_same : (f g : List ℕ → Bool) (xs : List (List ℕ)) → ((x : List ℕ) → list_any (λ w. bytes_eq w x) xs ≡ true → f x ≡ g x) → filter f xs ≡ filter g xs
filter_same f g [] h = refl
filter_same f g (x ∷ xs) h =
    ap (λ b. if b then x ∷ filter f xs else filter f xs) (h x (or_left (bytes_eq x x) (list_any (λ w. bytes_eq w x) xs) ((bytes_eq-Decides x x).1 refl)))
    ∙ ap (λ z. if g x then x ∷ z else z) (filter_same f g xs (λ y k. h y (or_right (bytes_eq x y) (list_any (λ w. bytes_eq w y) xs) k)))

among : (before after : List LeavesView) (l : LeavesView) (rev : List ℕ) → list_any (λ w. bytes_eq w rev) l.2 ≡ true → list_any (λ w. bytes_eq w rev) (wanted_revs (before ++ l ∷ after) l.1) ≡ true
among before after l rev h =
    let any = list_any (λ w. bytes_eq w rev) in
    let own : (if bytes_eq l.1 l.1 then l.2 else []) ≡ l.2 = cond-true (bytes_eq l.1 l.1) l.2 [] ((bytes_eq-Decides l.1 l.1).1 refl) in
    ap any (flat_map-append (λ (z : LeavesView). if bytes_eq z.1 l.1 then z.2 else []) before (l ∷ after)) ∙ ap (λ z. any (wanted_revs before l.1 ++ (z ++ wanted_revs after l.1))) own
    ∙ list_any-append (λ w. bytes_eq w rev) (wanted_revs before l.1) (l.2 ++ wanted_revs after l.1)
    ∙ or_right (any (wanted_revs before l.1)) (any (l.2 ++ wanted_revs after l.1)) (list_any-append (λ w. bytes_eq w rev) l.2 (wanted_revs after l.1) ∙ or_left (any l.2) (any (wanted_revs after l.1)) h)

-- the missing revisions of a line of the request
pub missing_is : (before after : List LeavesView) (l : LeavesView) (heads : List HeadView) → unmarked (marks heads l.1 (wanted_revs (before ++ l ∷ after) l.1)) l.2 ≡ missing_in heads l
missing_is before after l heads =
    let req = before ++ l ∷ after in
    filter_same (λ rev. not (is_marked (marks heads l.1 (wanted_revs req l.1)) rev)) (λ rev. not (is_received heads l.1 rev)) l.2 (λ rev h. ap not (marked_is heads l.1 (wanted_revs req l.1) rev ∙ ap (λ b. b && is_received heads l.1 rev) (among before after l rev h)))

-- a line of the request is requested
pub line_doc : (before after : List LeavesView) (l : LeavesView) (heads : List HeadView) → doc_of (before ++ l ∷ after) heads l.1 ≡ Some (marks heads l.1 (wanted_revs (before ++ l ∷ after) l.1), received_leaves heads l.1)
line_doc before after l heads =
    let req = before ++ l ∷ after in
    cond-true (is_requested req l.1) (Some (marks heads l.1 (wanted_revs req l.1), received_leaves heads l.1)) None (list_any-append (λ (z : LeavesView). bytes_eq z.1 l.1) before (l ∷ after)
    ∙ or_right (is_requested before l.1) (bytes_eq l.1 l.1 || is_requested after l.1) (or_left (bytes_eq l.1 l.1) (is_requested after l.1) ((bytes_eq-Decides l.1 l.1).1 refl)))

-- ---- the stored documents

map_cond : {A B : Type 0} (f : A → B) (b : Bool) (x : A) (y : Option A) → option_map f (cond b (Some x) y) ≡ (if b then Some (f x) else option_map f y)
map_cond f true x y = refl
map_cond f false x y = refl

-- the documents after one is stored
pub doc_put : {S : Type 0} (old new : HashMap (String Global) Doc S) (key : String Global) (doc : Doc) (id : List ℕ) → string_bytes key ≡ id → UpdatesBy string_eq (string_eq key) old new (Some doc) → (other : List ℕ)
    → doc_at new other ≡ (if bytes_eq id other then Some (doc_view doc) else doc_at old other)
doc_put old new key doc id e u other =
    ap (option_map doc_view) (hash_map_updates_text (string_bytes key) old new (Some doc) u other) ∙ map_cond doc_view (bytes_eq (string_bytes key) other) doc _
    ∙ ap (λ z. if bytes_eq z other then Some (doc_view doc) else doc_at old other) e
