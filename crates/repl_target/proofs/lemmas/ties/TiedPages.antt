-- A page is tied to its database, and stays tied.
use Rattle.proof_prelude.proofs.{◌≡◌, ℕ, zero, suc, ◌<◌, ◌≤◌, nat_lt, nat_le, ◌==◌, true, false, ◌&&◌, List, [], ◌∷◌, map, filter, length, take, Some, sym, ap, ◌∙◌, subst, inl, inr, arith, unwrap_or, list_any, AllByRecursion, bytes_eq, and_parts, and_from, cond_both, cond-false, cond-true, or_parts, bytes_eq-Decides, lt-ltb, ltb-true, le-leb, leb-true}
use Rattle.rev_core.specs.{RevId}
use Rattle.rev_tree.specs.{has, leaves, is_leaf, no_revisions, is_among-leaves}
use Rattle.doc_json.specs.{Choice, is_chosen}
use Rattle.couch_base.specs.{Among, EachOnce, Id, DocumentValue, DatabaseValue, LawfulDatabase, tree_in, tree_of, RowValue, WindowValue, row_of, feed, chosen_feed, last_seq, page, IsLater, Among-map, Among-mapped, Among-left, feed-page}
use Rattle.repl_target.specs.{IsTiedWindow}
use Rattle.repl_peer.proofs.{Among-filter, Among-filtered, Among-split, among_test}

-- ---- documents

apart_from : (id : Id) (ds : List DocumentValue) (d : DocumentValue) → list_any (bytes_eq id) (map (λ (x : DocumentValue). x.id) ds) ≡ false → Among d ds → bytes_eq id d.id ≡ false
apart_from id [] d h m = absurd m
apart_from id (x ∷ ds) d h m =
    let parts = or_parts (bytes_eq id x.id) (list_any (bytes_eq id) (map (λ (x : DocumentValue). x.id) ds)) h in
    elim m [ inl e ↦ ap (λ (y : DocumentValue). bytes_eq id y.id) e ∙ parts.0 | inr n ↦ apart_from id ds d parts.1 n ]

-- the tree of an existing document
pub tree_of-member : (ds : List DocumentValue) (d : DocumentValue) → EachOnce bytes_eq (map (λ (x : DocumentValue). x.id) ds) → Among d ds → tree_of ds d.id ≡ d.tree
tree_of-member [] d h m = absurd m
tree_of-member (x ∷ ds) d h (inl e) =
    ap (λ o. unwrap_or o no_revisions) (cond-true (bytes_eq x.id d.id) (Some x.tree) (tree_in ds d.id) ((bytes_eq-Decides x.id d.id).1 (ap (λ (y : DocumentValue). y.id) (sym e)))) ∙ ap (λ (y : DocumentValue). y.tree) (sym e)
tree_of-member (x ∷ ds) d h (inr m) =
    ap (λ o. unwrap_or o no_revisions) (cond-false (bytes_eq x.id d.id) (Some x.tree) (tree_in ds d.id) (apart_from x.id ds d h.0 m)) ∙ tree_of-member ds d h.1 m

-- a row of the feed is that of a document
pub feed_member : (db : DatabaseValue) (a b : ℕ) (r : RowValue) → Among r (feed db a b) → (d : DocumentValue) × Among d db.docs × (r ≡ row_of d) × (a < d.seq) × (d.seq ≤ b)
feed_member db a b r m =
    let k = Among-map row_of r (filter (λ (d : DocumentValue). nat_lt a d.seq && nat_le d.seq b) db.docs) m in
    let f = Among-filter (λ (d : DocumentValue). nat_lt a d.seq && nat_le d.seq b) k.0 db.docs k.1 in
    let t = and_parts _ _ f.1 in
    (k.0, f.0, k.2, ltb-true _ _ t.0, leb-true _ _ t.1)

pub in_feed : (db : DatabaseValue) (a b : ℕ) (d : DocumentValue) → Among d db.docs → a < d.seq → d.seq ≤ b → Among (row_of d) (feed db a b)
in_feed db a b d m lo hi = Among-mapped row_of d _ (Among-filtered (λ (d : DocumentValue). nat_lt a d.seq && nat_le d.seq b) d db.docs m (and_from _ _ (lt-ltb a d.seq lo) (le-leb d.seq b hi)))

-- a row of the selected feed is that of a selected document
pub chosen_member : (c : Choice) (db : DatabaseValue) (a b : ℕ) (r : RowValue) → Among r (chosen_feed c db a b) → (d : DocumentValue) × Among d db.docs × (r ≡ row_of d) × (a < d.seq) × (d.seq ≤ b) × (is_chosen c d.id ≡ true)
chosen_member c db a b r m =
    let k = Among-filter (λ (r : RowValue). is_chosen c r.id) r (feed db a b) m in
    let f = feed_member db a b r k.0 in
    (f.0, f.1, f.2, f.3, f.4, ap (λ (x : RowValue). is_chosen c x.id) (sym f.2) ∙ k.1)

pub in_chosen : (c : Choice) (db : DatabaseValue) (a b : ℕ) (d : DocumentValue) → Among d db.docs → is_chosen c d.id ≡ true → a < d.seq → d.seq ≤ b → Among (row_of d) (chosen_feed c db a b)
in_chosen c db a b d m chosen lo hi = Among-filtered (λ (r : RowValue). is_chosen c r.id) (row_of d) (feed db a b) (in_feed db a b d m lo hi) chosen

-- ---- pages

rows_below : (a c : ℕ) (ds : List DocumentValue) → AllByRecursion (λ (r : RowValue). r.seq ≤ c) (map row_of (filter (λ d. nat_lt a d.seq && nat_le d.seq c) ds))
rows_below a c [] = tt
rows_below a c (d ∷ ds) =
    cond_both (nat_lt a d.seq && nat_le d.seq c) (d ∷ filter (λ d. nat_lt a d.seq && nat_le d.seq c) ds) (filter (λ d. nat_lt a d.seq && nat_le d.seq c) ds) (λ l. AllByRecursion (λ (r : RowValue). r.seq ≤ c) (map row_of l))
    (λ passes. (leb-true d.seq c (and_parts _ _ passes).1, rows_below a c ds))
    (λ _. rows_below a c ds)

last_below : (a c n : ℕ) (rows : List RowValue) → a ≤ c → AllByRecursion (λ (r : RowValue). r.seq ≤ c) rows → last_seq a (take n rows) ≤ c
last_below a c zero rows h all = h
last_below a c (suc n) [] h all = h
last_below a c (suc n) (r ∷ rows) h all = last_below r.seq c n rows all.0 all.1

pub page_within : (db : DatabaseValue) (since goal limit : ℕ) (c : Choice) → since ≤ goal → (page db since goal limit c).hi ≤ goal
page_within db since goal limit c h =
    let rows = take limit (feed db since goal) in
    cond_both (length rows == limit) (last_seq since rows) goal (λ end. end ≤ goal) (λ _. last_below since goal limit (feed db since goal) h (rows_below since goal db.docs)) (λ _. omega arith)

leaf_stands : (db : DatabaseValue) (a b : ℕ) → LawfulDatabase db → (r : RowValue) → Among r (feed db a b) → (l : RevId) → Among l r.leaves → has (tree_of db.docs r.id) l ≡ true
leaf_stands db a b law r m l k =
    let f = feed_member db a b r m in
    let d = f.0 in
    let there : Among l (leaves d.tree) = subst (λ (x : RowValue). Among l x.leaves) f.2 k in
    let leaf : is_leaf d.tree l ≡ true = sym (is_among-leaves d.tree l) ∙ among_test l (leaves d.tree) there in
    ap (λ (x : RowValue). has (tree_of db.docs x.id) l) f.2 ∙ ap (λ t. has t l) (tree_of-member db.docs d law.distinct f.1) ∙ (and_parts _ _ leaf).0

-- a page is tied
pub IsTiedWindow-page : (db : DatabaseValue) (since goal limit : ℕ) (c : Choice) → LawfulDatabase db → since ≤ goal → goal ≤ db.update_seq → IsTiedWindow db c (page db since goal limit c)
IsTiedWindow-page db since goal limit c law order reach =
    let w = page db since goal limit c in
    let below = page_within db since goal limit c order in
    let split = feed-page db since goal limit c law in
    record {
      reached = omega (arith, below, reach);
      rows = λ d m chosen lo hi. elim (Among-split (row_of d) w.rows (chosen_feed c db w.hi goal) (subst (Among (row_of d)) split (in_chosen c db since goal d m chosen lo (omega (arith, hi, below))))) [
        | inl here ↦ here
        | inr further ↦
            let f = chosen_member c db w.hi goal (row_of d) further in
            let same : d.seq ≡ f.0.seq = ap (λ (x : RowValue). x.seq) f.2 in
            absurd (omega (arith, f.3, hi, same))
      ];
      leaves = λ r m l k.
          leaf_stands db since goal law r (Among-filter (λ (r : RowValue). is_chosen c r.id) r (feed db since goal) (subst (Among r) (sym split) (Among-left r w.rows (chosen_feed c db w.hi goal) m))).0 l k;
    }

-- a tied window stays tied to a later database
pub IsTiedWindow-later : (a b : DatabaseValue) (c : Choice) (w : WindowValue) → IsLater a b → IsTiedWindow a c w → IsTiedWindow b c w
IsTiedWindow-later a b c w later h =
    record {
      reached = omega (arith, later.seq, h.reached);
      rows = λ d m chosen lo hi. h.rows d (later.kept d m (omega (arith, hi, h.reached))) chosen lo hi;
      leaves = λ r m l k. later.has r.id l (h.leaves r m l k);
    }
