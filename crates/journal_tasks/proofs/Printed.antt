-- The lines that the task `conflicts` prints.
use Rattle.proof_prelude.proofs.{◌≡◌, ℕ, suc, ◌+◌, ◌-◌, ◌<◌, Bool, true, false, ◌==◌, ◌||◌, not, cond, if◌then◌else◌, nat_eq, List, [], ◌∷◌, ◌++◌, length, take, drop, filter, flat_map, flat_map-append, fold, map, map-append, map_more, slice_get, get_or, Some, bytes_eq, Global, String, string_bytes, Vec, inl, inr, refl, sym, ap, ap₂, ◌∙◌, arith, cases_Bool, cond-true, cond-false, eqb-suc-zero, append_assoc, append-nil, length-map, length-take, list_any, codes}
use Rattle.std.proofs.lemmas.List.Sums.{fold-append}
use Rattle.std.specs.List.{position_or_len}
use Rattle.journal_lines.specs.Docs.{add_rev}
use Rattle.journal_lines.specs.Leafs.{HeadView, head_view, rev_at}
use Rattle.journal_lines.specs.Lists.{texts_of}
use Rattle.journal_lines.specs.Texts.{rev_text}
use Rattle.journal_lines.specs.declared.leaf.Leaf.{Leaf}
use Rattle.journal_tasks.specs.{add_head, ancestry, comma_text, conflict_text, distinct, heads_view, is_dash, is_in_conflict, rev_parts, revs_known}
use Rattle.journal_tasks.proofs.Histories.{doc_heads}
use Rattle.journal_tasks.proofs.Lookups.{at_entry}

-- ---- a revision id without a generation

no_dash : (rev : List ℕ) → position_or_len (λ b. b == 45) rev ≡ length rev → list_any is_dash rev ≡ false
no_dash [] h = refl
no_dash (b ∷ bs) h =
    elim (cases_Bool (b == 45)) [
      | inl hit ↦ absurd (nothing (ap (λ z. cond (not z) (1 + position_or_len (λ b. b == 45) bs) 0) (sym hit) ∙ h))
      | inr miss ↦ rw miss (no_dash bs (one_less (ap (λ z. cond (not z) (1 + position_or_len (λ b. b == 45) bs) 0) (sym miss) ∙ h)))
    ] where
      nothing : 0 ≡ length (b ∷ bs) → ⊥
      nothing e = omega (arith, e)

      one_less : 1 + position_or_len (λ b. b == 45) bs ≡ length (b ∷ bs) → position_or_len (λ b. b == 45) bs ≡ length bs
      one_less e = omega (arith, e)

pub parts_without : (rev : List ℕ) → position_or_len (λ b. b == 45) rev ≡ length rev → (0, rev) ≡ rev_parts rev
parts_without rev h = rw (no_dash rev h) refl

-- ---- an ancestry

ancestry_push : (start : ℕ) (names : List (List ℕ)) (name : List ℕ) → ancestry start (names ++ name ∷ []) ≡ ancestry start names ++ rev_at (start - length names) name ∷ []
ancestry_push start [] name = ap (λ k. rev_at k name ∷ []) (same start) where
  same : (a : ℕ) → a ≡ a - 0
  same a = omega arith
ancestry_push start (n ∷ ns) name =
    ap (λ (z : List (List ℕ)). rev_at start n ∷ z) (ancestry_push (start - 1) ns name ∙ ap (λ k. ancestry (start - 1) ns ++ rev_at k name ∷ []) (less start (length ns))) where
      less : (a b : ℕ) → a - 1 - b ≡ a - suc b
      less a b = omega arith

ancestry_length : (start : ℕ) (names : List (List ℕ)) → length (ancestry start names) ≡ length names
ancestry_length start [] = refl
ancestry_length start (n ∷ ns) = ap suc (ancestry_length (start - 1) ns)

-- the ancestry as far as the first signatures, and one signature more
pub ancestry_more : (start : ℕ) (names : List (String Global)) (i : ℕ) (d : String Global) → i < length names → ancestry start (texts_of (take (i + 1) names)) ≡ ancestry start (texts_of (take i names)) ++ rev_at (start - i) (string_bytes (get_or names i d)) ∷ []
ancestry_more start names i d h =
    let before = texts_of (take i names) in
    let at : length before ≡ i = omega (arith, length-map (take i names) string_bytes, length-take i names, h) in
    ap (ancestry start) (map_more string_bytes names i d h) ∙ ancestry_push start before (string_bytes (get_or names i d)) ∙ ap (λ k. ancestry start before ++ rev_at (start - k) (string_bytes (get_or names i d)) ∷ []) at

comma_push : (revs : List (List ℕ)) (rev : List ℕ) → comma_text (revs ++ rev ∷ []) ≡ comma_text revs ++ ((if nat_eq (length revs) 0 then [] else codes ",") ++ rev_text rev)
comma_push [] rev = append-nil (rev_text rev)
comma_push (r ∷ rs) rev =
    let f : List ℕ → List ℕ = λ later. codes "," ++ rev_text later in
    ap (λ z. rev_text r ++ z) (flat_map-append f rs (rev ∷ []) ∙ ap (λ z. flat_map f rs ++ z) (append-nil (f rev))) ∙ sym (append_assoc (rev_text r) (flat_map f rs) (f rev))
    ∙ ap (λ (b : Bool). comma_text (r ∷ rs) ++ ((if b then [] else codes ",") ++ rev_text rev)) (sym (eqb-suc-zero (length rs)))

-- a revision of the ancestry more is written
pub ancestor_written : (start : ℕ) (names : List (String Global)) (i : ℕ) (d : String Global) (rev before old mid new : List ℕ) → i < length names → rev ≡ rev_at (start - i) (string_bytes (get_or names i d)) → old ≡ before ++ comma_text (ancestry start (texts_of (take i names)))
    → mid ≡ old ++ (if nat_eq i 0 then [] else codes ",") → new ≡ mid ++ rev_text rev → new ≡ before ++ comma_text (ancestry start (texts_of (take (i + 1) names)))
ancestor_written start names i d rev before old mid new h r o m n =
    let shown = ancestry start (texts_of (take i names)) in
    let comma : ℕ → List ℕ = λ k. if nat_eq k 0 then [] else codes "," in
    let at : length shown ≡ i = ancestry_length start (texts_of (take i names)) ∙ omega (arith, length-map (take i names) string_bytes, length-take i names, h) in
    n ∙ ap (λ z. z ++ rev_text rev) (m ∙ ap (λ z. z ++ comma i) o) ∙ ap (λ z. ((before ++ comma_text shown) ++ comma i) ++ rev_text z) r
    ∙ append_assoc (before ++ comma_text shown) (comma i) (rev_text (rev_at (start - i) (string_bytes (get_or names i d)))) ∙ append_assoc before (comma_text shown) (comma i ++ rev_text (rev_at (start - i) (string_bytes (get_or names i d))))
    ∙ ap (λ k. before ++ (comma_text shown ++ (comma k ++ rev_text (rev_at (start - i) (string_bytes (get_or names i d)))))) (sym at)
    ∙ ap (λ z. before ++ z) (sym (comma_push shown (rev_at (start - i) (string_bytes (get_or names i d))))) ∙ ap (λ (z : List (List ℕ)). before ++ comma_text z) (sym (ancestry_more start names i d h))

-- ---- the known revisions

-- a revision of the ancestry more is stored
pub ancestor_stored : (start : ℕ) (names : List (String Global)) (i : ℕ) (d : String Global) (rev first : List ℕ) (before old new : List (List ℕ)) → i < length names → rev ≡ rev_at (start - i) (string_bytes (get_or names i d)) → old ≡ fold add_rev before (first ∷ ancestry start (texts_of (take i names)))
    → new ≡ add_rev old rev → new ≡ fold add_rev before (first ∷ ancestry start (texts_of (take (i + 1) names)))
ancestor_stored start names i d rev first before old new h r o n =
    let shown = ancestry start (texts_of (take i names)) in
    n ∙ ap₂ add_rev o r ∙ sym (fold-append add_rev before (first ∷ shown) (rev_at (start - i) (string_bytes (get_or names i d)) ∷ [])) ∙ ap (λ (z : List (List ℕ)). fold add_rev before (first ∷ z)) (sym (ancestry_more start names i d h))

-- the revisions of a leaf more are stored
pub leaf_stored : (leaves : List Leaf) (i : ℕ) (d : Leaf) (old new : List (List ℕ)) → i < length leaves → old ≡ distinct (flat_map revs_known (heads_view (take i leaves))) → new ≡ fold add_rev old (revs_known (head_view (get_or leaves i d))) → new ≡ distinct (flat_map revs_known (heads_view (take (i + 1) leaves)))
leaf_stored leaves i d old new h o n =
    let before = flat_map revs_known (heads_view (take i leaves)) in
    let more = revs_known (head_view (get_or leaves i d)) in
    n ∙ ap (λ (z : List (List ℕ)). fold add_rev z more) o ∙ sym (fold-append add_rev [] before more)
    ∙ ap distinct (ap (λ (z : List (List ℕ)). before ++ z) (sym (append-nil more)) ∙ sym (flat_map-append revs_known (heads_view (take i leaves)) (head_view (get_or leaves i d) ∷ [])))
    ∙ ap (λ (z : List HeadView). distinct (flat_map revs_known z)) (sym (map_more head_view leaves i d h))

-- ---- a leaf more

any_head : (leaves : List Leaf) (rev : List ℕ) → list_any (λ (k : Leaf). bytes_eq (string_bytes k.rev) rev) leaves ≡ list_any (λ (k : HeadView). bytes_eq k.1.0 rev) (heads_view leaves)
any_head [] rev = refl
any_head (leaf ∷ leaves) rev = ap (λ b. bytes_eq (string_bytes leaf.rev) rev || b) (any_head leaves rev)

pub head_known : (leaves : List Leaf) (leaf : Leaf) (b : Bool) → b ≡ list_any (λ (k : Leaf). bytes_eq (string_bytes k.rev) (string_bytes leaf.rev)) leaves → b ≡ true → heads_view leaves ≡ add_head (heads_view leaves) (head_view leaf)
head_known leaves leaf b e h =
    let rev = string_bytes leaf.rev in
    let heads = heads_view leaves in
    sym (cond-true (list_any (λ (k : HeadView). bytes_eq k.1.0 rev) heads) heads (heads ++ head_view leaf ∷ []) (sym (any_head leaves rev) ∙ sym e ∙ h))

pub head_new : (leaves new : List Leaf) (leaf : Leaf) (b : Bool) → b ≡ list_any (λ (k : Leaf). bytes_eq (string_bytes k.rev) (string_bytes leaf.rev)) leaves → b ≡ false → new ≡ leaves ++ leaf ∷ [] → heads_view new ≡ add_head (heads_view leaves) (head_view leaf)
head_new leaves new leaf b e h n =
    let rev = string_bytes leaf.rev in
    let heads = heads_view leaves in
    ap heads_view n ∙ map-append head_view leaves (leaf ∷ []) ∙ sym (cond-false (list_any (λ (k : HeadView). bytes_eq k.1.0 rev) heads) heads (heads ++ head_view leaf ∷ []) (sym (any_head leaves rev) ∙ sym e ∙ h))

-- ---- a document more

abbrev pub Stored : Type 0
Stored = List (String Global × Vec Leaf Global)

pub doc_printed : (es : Stored) (i : ℕ) (k : String Global) (v : Vec Leaf Global) (id : List ℕ) (leaves : List Leaf) (old new all : List ℕ) → Some (k, v) ≡ slice_get es i → id ≡ string_bytes k → leaves ≡ v.items
    → new ≡ old ++ conflict_text (id, heads_view leaves) → old ++ flat_map conflict_text (map doc_heads (drop i es)) ≡ all → new ++ flat_map conflict_text (map doc_heads (drop (i + 1) es)) ≡ all
doc_printed es i k v id leaves old new all entry a b n before =
    let rest = flat_map conflict_text (map doc_heads (drop (i + 1) es)) in
    ap (λ z. z ++ rest) (n ∙ ap₂ (λ (x : List ℕ) (y : List Leaf). old ++ conflict_text (x, heads_view y)) a b) ∙ append_assoc old (conflict_text (doc_heads (k, v))) rest
    ∙ ap (λ (l : Stored). old ++ flat_map conflict_text (map doc_heads l)) (sym (at_entry es i (k, v) (sym entry))) ∙ before

one_found : (b : Bool) (doc : List ℕ × List HeadView) (docs : List (List ℕ × List HeadView)) → (if b then 1 else 0) + length docs ≡ length (if b then doc ∷ docs else docs)
one_found true doc docs = omega arith
one_found false doc docs = omega arith

pub doc_counted : (es : Stored) (i : ℕ) (k : String Global) (v : Vec Leaf Global) (id : List ℕ) (leaves : List Leaf) (is_found : Bool) (old new all : ℕ) → Some (k, v) ≡ slice_get es i → id ≡ string_bytes k → leaves ≡ v.items
    → is_found ≡ is_in_conflict (id, heads_view leaves) → new ≡ old + (if is_found then 1 else 0) → old + length (filter is_in_conflict (map doc_heads (drop i es))) ≡ all → new + length (filter is_in_conflict (map doc_heads (drop (i + 1) es))) ≡ all
doc_counted es i k v id leaves is_found old new all entry a b f n before =
    let rest = filter is_in_conflict (map doc_heads (drop (i + 1) es)) in
    let doc = doc_heads (k, v) in
    let is : is_found ≡ is_in_conflict doc = f ∙ ap₂ (λ (x : List ℕ) (y : List Leaf). is_in_conflict (x, heads_view y)) a b in
    let at : length (filter is_in_conflict (map doc_heads (drop i es))) ≡ length (if is_in_conflict doc then doc ∷ rest else rest) = ap (λ (l : Stored). length (filter is_in_conflict (map doc_heads l))) (at_entry es i (k, v) (sym entry)) in
    let one : (if is_found then 1 else 0) + length rest ≡ length (if is_in_conflict doc then doc ∷ rest else rest) = ap (λ (z : Bool). (if z then 1 else 0) + length rest) is ∙ one_found (is_in_conflict doc) doc rest in
    omega (arith, n, at, one, before)
