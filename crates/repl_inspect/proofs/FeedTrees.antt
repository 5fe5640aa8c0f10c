-- The complete feed has each document of a database, in order.
use Rattle.proof_prelude.proofs.{◌≡◌, ℕ, ◌<◌, ◌≤◌, ◌&&◌, nat_lt, nat_le, cond, List, [], ◌∷◌, map, filter, None, refl, ap, ◌∙◌, inl, inr, arith, and_from, lt-ltb, le-leb}
use Rattle.rev_tree.specs.{TreeValue}
use Rattle.couch_base.specs.{Among, Rises, DocumentValue, DatabaseValue, LawfulDatabase, tree_of, RowValue, row_of, feed, chosen_feed, chosen-all, rises_le}
use Rattle.repl_target.proofs.{tree_of-member}
use Rattle.repl_inspect.specs.{trees}

all_in : (k n : ℕ) (ds : List DocumentValue) → Rises k (map (λ d. d.seq) ds) n → filter (λ d. nat_lt 0 d.seq && nat_le d.seq n) ds ≡ ds
all_in k n [] r = refl
all_in k n (d ∷ ds) r =
    let next : k < d.seq = r.0 in
    let low : d.seq ≤ n = rises_le d.seq (map (λ x. x.seq) ds) n r.1 in
    let rest = filter (λ (x : DocumentValue). nat_lt 0 x.seq && nat_le x.seq n) ds in
    ap (λ t. cond t (d ∷ rest) rest) (and_from _ _ (lt-ltb 0 d.seq (omega (arith, next))) (le-leb d.seq n low)) ∙ ap (λ l. d ∷ l) (all_in d.seq n ds r.1)

rows_all : (db : DatabaseValue) → LawfulDatabase db → chosen_feed None db 0 db.update_seq ≡ map row_of db.docs
rows_all db law = chosen-all (feed db 0 db.update_seq) ∙ ap (map row_of) (all_in 0 db.update_seq db.docs law.rising)

mapped_alike : (f g : DocumentValue → TreeValue) (ds : List DocumentValue) → ((d : DocumentValue) → Among d ds → f d ≡ g d) → map f ds ≡ map g ds
mapped_alike f g [] h = refl
mapped_alike f g (d ∷ ds) h = ap (λ x. x ∷ map f ds) (h d (inl refl)) ∙ ap (λ l. g d ∷ l) (mapped_alike f g ds (λ x m. h x (inr m)))

mapped_rows : (f : RowValue → TreeValue) (ds : List DocumentValue) → map f (map row_of ds) ≡ map (λ d. f (row_of d)) ds
mapped_rows f [] = refl
mapped_rows f (d ∷ ds) = ap (λ l. f (row_of d) ∷ l) (mapped_rows f ds)

-- the trees of the feed's documents are those of the database
pub trees_all : (db : DatabaseValue) → LawfulDatabase db → map (λ r. tree_of db.docs r.id) (chosen_feed None db 0 db.update_seq) ≡ trees db
trees_all db law =
    ap (map (λ (r : RowValue). tree_of db.docs r.id)) (rows_all db law)
    ∙ mapped_rows (λ r. tree_of db.docs r.id) db.docs
    ∙ mapped_alike (λ d. tree_of db.docs d.id) (λ d. d.tree) db.docs (λ d m. tree_of-member db.docs d law.distinct m)
