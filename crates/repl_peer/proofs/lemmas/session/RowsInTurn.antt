-- Rows, one at a time.
use Rattle.proof_prelude.proofs.{◌≡◌, ℕ, ◌+◌, ◌<◌, Bool, true, false, ◌&&◌, ◌||◌, List, [], ◌∷◌, length, map, take, drop, get_or, Option, Some, None, slice_get, IfNone, sym, ap, ◌∙◌, zero, suc, cond-true, cond-false, drop_more, list_any-append, list_any, list_all, bytes_eq, bytes_eq-Decides, take-append-drop}
use Rattle.couch_base.specs.{EachOnce, Id, RowValue, none_some, some_is, both_false}
use Rattle.repl_peer.specs.{seq_in}

-- ---- a test of all

pub all_later : {X : Type 0} (test : X → Bool) (xs : List X) (i : ℕ) (x : X) → i < length xs → x ≡ get_or xs i x → test x ≡ true → list_all test (drop i xs) ≡ list_all test (drop (i + 1) xs)
all_later test xs i x h is so = ap (list_all test) (drop_more xs i x h ∙ ap (λ y. y ∷ drop (i + 1) xs) (sym is)) ∙ ap (λ b. b && list_all test (drop (i + 1) xs)) so

-- ---- indices

pub none_both : {X : Type 0} (test : X → Bool) (xs : List X) (n : ℕ) → list_any test (take n xs) ≡ false → list_any test (drop n xs) ≡ false → list_any test xs ≡ false
none_both test xs n front back =
    ap (list_any test) (sym (take-append-drop n xs)) ∙ list_any-append test (take n xs) (drop n xs) ∙ ap (λ b. b || list_any test (drop n xs)) front ∙ back

pub IfNone_then : {X : Type 0} {P Q : Type 0} (o : Option X) → (P → Q) → IfNone o P → IfNone o Q
IfNone_then None f h = f h
IfNone_then (Some x) f h = tt

-- ---- sequences

pub seq_is : (rows : List RowValue) (i : ℕ) (row : RowValue) (id : Id) → EachOnce bytes_eq (map (λ (r : RowValue). r.id) rows) → slice_get rows i ≡ Some row → bytes_eq row.id id ≡ true → row.seq ≡ seq_in rows id
seq_is [] i row id once at same = absurd (none_some row at)
seq_is (r ∷ rows) zero row id once at same =
    let is = some_is r row at in
    sym (cond-true (bytes_eq r.id id) r.seq (seq_in rows id) (ap (λ (x : RowValue). bytes_eq x.id id) is ∙ same) ∙ ap (λ (x : RowValue). x.seq) is)
seq_is (r ∷ rows) (suc i) row id once at same =
    let apart : bytes_eq r.id id ≡ false =
    ap (bytes_eq r.id) (sym ((bytes_eq-Decides row.id id).0 same)) ∙ not_there rows i row r.id once.0 at in
    seq_is rows i row id once.1 at same ∙ sym (cond-false (bytes_eq r.id id) r.seq (seq_in rows id) apart)
  where
    not_there : (rows : List RowValue) (i : ℕ) (row : RowValue) (id : Id) → list_any (bytes_eq id) (map (λ (r : RowValue). r.id) rows) ≡ false → slice_get rows i ≡ Some row → bytes_eq id row.id ≡ false
    not_there [] i row id none at = absurd (none_some row at)
    not_there (x ∷ rows) zero row id none at = ap (λ (y : RowValue). bytes_eq id y.id) (sym (some_is x row at)) ∙ (both_false _ _ none).0
    not_there (x ∷ rows) (suc i) row id none at = not_there rows i row id (both_false _ _ none).1 at
