-- The value that the serialized form of a document denotes, with its members in the order of the text.
use Rattle.proof_prelude.proofs.{◌≡◌, ℕ, List, [], ◌∷◌, ◌++◌, Bool, true, false, Some, option_map, codes, refl, sym, ap, ◌∙◌, arith, append_assoc, decimal, AllByRecursion}
use Rattle.json.specs.Print.{quoted, escape, escape_byte}
use Rattle.serde_json.specs.Data.{Data, Items, no_items, item, Members, no_members, member, object, boolean, number, string, array, unsigned}
use Rattle.serde_json.specs.Read.{of_json, of_items, of_members}
use Rattle.serde_json.specs.Written.{compact_text, items_text, members_text, outline, items_outline, members_outline}
use Rattle.serde_json.proofs.Numbers.{number_of-decimal}
use Rattle.rev_core.specs.{RevId, IsRev, rev_text}
use Rattle.doc_json.specs.{doc_text, revs_text, sig_text, sig_texts, deleted_text, rest_text}
use Rattle.doc_json.proofs.SigBytes.{escape-sig_bytes, sig_bytes, rev_text_bytes}

abbrev pub sig_items : List RevId → Items
sig_items [] = no_items
sig_items (r ∷ revs) = item (string r.sig) (sig_items revs)

abbrev pub revisions_data : RevId → List RevId → Data
revisions_data head older = object (member (codes "start") (number (unsigned head.generation)) (member (codes "ids") (array (sig_items (head ∷ older))) no_members))

abbrev pub with_flag : Bool → Members → Members
with_flag true ms = member (codes "_deleted") (boolean true) ms
with_flag false ms = ms

abbrev pub doc_members : List ℕ → RevId → List RevId → Bool → Members → Members
doc_members id head older deleted ms =
    member (codes "_id") (string id) (member (codes "_rev") (string (rev_text head)) (member (codes "_revisions") (revisions_data head older) (with_flag deleted ms)))

-- ---- the text

sig_quoted : (r : RevId) → IsRev r → quoted r.sig ≡ sig_text r
sig_quoted r h = ap (λ s. 34 ∷ (s ++ 34 ∷ [])) (escape-sig_bytes r.sig (sig_bytes r.sig h.sig))

sig_items_text : (r : RevId) (revs : List RevId) → IsRev r → AllByRecursion IsRev revs → items_text false (sig_items (r ∷ revs)) ≡ sig_texts (r ∷ revs) ++ 93 ∷ []
sig_items_text r [] h each = ap (λ s. s ++ 93 ∷ []) (sig_quoted r h)
sig_items_text r (q ∷ revs) h each =
    ap (λ s. s ++ items_text true (sig_items (q ∷ revs))) (sig_quoted r h)
    ∙ ap (λ t. sig_text r ++ 44 ∷ t) (sig_items_text q revs each.0 each.1)
    ∙ sym (append_assoc (sig_text r) (44 ∷ sig_texts (q ∷ revs)) (93 ∷ []))

rest_of : (ms : Members) → members_text true ms ≡ rest_text (compact_text (object ms))
rest_of no_members = unfold escape_byte in refl
rest_of (member k d ms) = unfold escape_byte in refl

flag_text : (deleted : Bool) (ms : Members) → members_text true (with_flag deleted ms) ≡ deleted_text deleted ++ rest_text (compact_text (object ms))
flag_text true ms = unfold escape_byte in ap (λ t. codes ",\"_deleted\":true" ++ t) (rest_of ms)
flag_text false ms = unfold escape_byte in rest_of ms

-- the pieces of the text, each before the rest
abbrev laid : List ℕ → List ℕ → List ℕ → List ℕ → List ℕ → List ℕ
laid id rev start ids rest =
    codes "{\"_id\":" ++ (id ++ (codes ",\"_rev\":\"" ++ ((rev ++ 34 ∷ []) ++ (codes ",\"_revisions\":" ++ ((codes "{\"start\":" ++ (start ++ (codes ",\"ids\":[" ++ (ids ++ 125 ∷ [])))) ++ rest)))))

laid_is : (id : List ℕ) (head : RevId) (older : List RevId) (deleted : Bool) (ms : Members)
    → compact_text (object (doc_members id head older deleted ms)) ≡ laid (quoted id) (escape (rev_text head)) (decimal head.generation) (items_text false (sig_items (head ∷ older))) (members_text true (with_flag deleted ms))
laid_is id head older deleted ms = unfold escape_byte in refl

regroup : (a b c d e f g h i j k l m : List ℕ) → a ++ (b ++ (c ++ ((d ++ e) ++ (f ++ ((g ++ (h ++ (i ++ ((j ++ k) ++ l)))) ++ m))))) ≡ ((a ++ b) ++ ((((((c ++ d) ++ (e ++ (f ++ g))) ++ h) ++ i) ++ j) ++ (k ++ l))) ++ m
regroup a b c d e f g h i j k l m = simp append_assoc

pub doc_members_text : (id : List ℕ) (head : RevId) (older : List RevId) (deleted : Bool) (ms : Members) (body : List ℕ) → IsRev head → AllByRecursion IsRev older → body ≡ compact_text (object ms)
    → doc_text (record { id = id; ancestry = head ∷ older; deleted = deleted; body = body }) ≡ compact_text (object (doc_members id head older deleted ms))
doc_members_text id head older deleted ms body rev each is = unfold doc_text revs_text in
    let revs = head ∷ older in
    let rest = deleted_text deleted ++ rest_text (compact_text (object ms)) in
    sym (laid_is id head older deleted ms
    ∙ ap (λ r. laid (quoted id) r (decimal head.generation) (items_text false (sig_items revs)) (members_text true (with_flag deleted ms))) (escape-sig_bytes (rev_text head) (rev_text_bytes head rev))
    ∙ ap (λ t. laid (quoted id) (rev_text head) (decimal head.generation) t (members_text true (with_flag deleted ms))) (sig_items_text head older rev each)
    ∙ ap (λ t. laid (quoted id) (rev_text head) (decimal head.generation) (sig_texts revs ++ 93 ∷ []) t) (flag_text deleted ms)
    ∙ regroup (codes "{\"_id\":") (quoted id) (codes ",\"_rev\":\"") (rev_text head) (codes "\"") (codes ",\"_revisions\":") (codes "{\"start\":") (decimal head.generation) (codes ",\"ids\":[") (sig_texts revs) (codes "]") (codes "}") rest
    ∙ sym (append_assoc ((codes "{\"_id\":" ++ quoted id) ++ revs_text revs) (deleted_text deleted) (rest_text (compact_text (object ms))))
    ∙ ap (λ b. ((codes "{\"_id\":" ++ quoted id) ++ revs_text revs) ++ deleted_text deleted ++ rest_text b) (sym is))

-- ---- reading the text

pub sig_items_read : (revs : List RevId) → of_items (items_outline (sig_items revs)) ≡ Some (sig_items revs)
sig_items_read [] = refl
sig_items_read (r ∷ revs) = ap (option_map (item (string r.sig))) (sig_items_read revs)

-- `_revisions`, with its members in order of their names
abbrev pub revisions_value : RevId → List RevId → Data
revisions_value head older = object (member (codes "ids") (array (sig_items (head ∷ older))) (member (codes "start") (number (unsigned head.generation)) no_members))

revisions_read_as : (head : RevId) (older : List RevId) → IsRev head → of_json (outline (revisions_data head older)) ≡ Some (revisions_value head older)
revisions_read_as head older h = rw (number_of-decimal head.generation (omega (arith, h.high)), sig_items_read older) refl

-- the special members, in order of their names
abbrev pub special_members : List ℕ → RevId → List RevId → Bool → Members
special_members id head older deleted =
    with_flag deleted (member (codes "_id") (string id) (member (codes "_rev") (string (rev_text head)) (member (codes "_revisions") (revisions_value head older) no_members)))

flag_read : (id : List ℕ) (head : RevId) (older : List RevId) (deleted : Bool) (ms : Members)
    → of_members (members_outline (with_flag deleted ms)) (special_members id head older false) ≡ of_members (members_outline ms) (special_members id head older deleted)
flag_read id head older true ms = refl
flag_read id head older false ms = refl

pub doc_members_read : (id : List ℕ) (head : RevId) (older : List RevId) (deleted : Bool) (ms : Members) → IsRev head
    → of_json (outline (object (doc_members id head older deleted ms))) ≡ option_map object (of_members (members_outline ms) (special_members id head older deleted))
doc_members_read id head older deleted ms h =
    rw (revisions_read_as head older h) (ap (option_map object) (flag_read id head older deleted ms))
