-- The rows of a drawing: from which earlier row each row branches off, and the edges between rows.
use Rattle.proof_prelude.proofs.{◌≡◌, ◌⊎◌, if◌then◌else◌, append-nil, eqb-suc-zero, filter, nat_lt, ℕ, zero, suc, ◌+◌, ◌-◌, ◌<◌, ◌≤◌, List, [], ◌∷◌, ◌++◌, inl, inr, ⊎_elim, arith, refl, sym, ap, ap₂, subst, ◌∙◌, cases_lt, drop, drop-set, drop_more, get_or, get_or-map, get_or-append_seam, get_or-take, get_or_append_left, length, length-append, length-map, length-take-le, map, map-append, subst₂, take, take_all, take_more}
use Rattle.std.specs.Prelude.{set}
use Rattle.std.specs.List.{take-map}
use Rattle.std.proofs.Math.Seq.{map-set_same}
use Rattle.std.proofs.lemmas.List.{map-set}
use Rattle.diagrams.specs.{Leaf}
use Rattle.diagrams.specs.declared.ancestries.Ancestries.{Ancestries}
use Rattle.diagrams.specs.declared.rows.OpenRow.{OpenRow}
use Rattle.diagrams.specs.declared.rows.Row.{Row}
use Rattle.diagrams.specs.Rows.{AreRows, Closes, IsParent, edges_above, edges_by_row, edges_of, hang_of, hangs_after, hangs_of, open_hangs, open_rows}

-- ---- the generations at which rows branch off

first_hang : (a : Ancestries) (leaves : List Leaf) → get_or (hangs_of a leaves) 0 0 ≡ 0
first_hang a [] = refl
first_hang a (leaf ∷ leaves) = refl

length-after : (a : Ancestries) (one : Leaf) (leaves : List Leaf) → length (hangs_after a one leaves) ≡ length leaves
length-after a one [] = refl
length-after a one (leaf ∷ leaves) = ap suc (length-after a leaf leaves)

pub length-hangs : (a : Ancestries) (leaves : List Leaf) → length (hangs_of a leaves) ≡ length leaves
length-hangs a [] = refl
length-hangs a (leaf ∷ leaves) = ap suc (length-after a leaf leaves)

after_at : (a : Ancestries) (one : Leaf) (leaves : List Leaf) (i : ℕ) (d e : Leaf) → i < length leaves → get_or (hangs_after a one leaves) i 0 ≡ hang_of a (get_or (one ∷ leaves) i d) (get_or leaves i e)
after_at a one [] i d e low = absurd (omega (arith, low))
after_at a one (leaf ∷ leaves) zero d e low = refl
after_at a one (leaf ∷ leaves) (suc i) d e low = after_at a leaf leaves i d e (omega (arith, low))

hang_after : (a : Ancestries) (leaves : List Leaf) (i : ℕ) (d e : Leaf) → suc i < length leaves → get_or (hangs_of a leaves) (suc i) 0 ≡ hang_of a (get_or leaves i d) (get_or leaves (suc i) e)
hang_after a [] i d e low = absurd (omega (arith, low))
hang_after a (leaf ∷ leaves) i d e low = after_at a leaf leaves i d e (omega (arith, low))

pub hang_at : (a : Ancestries) (leaves : List Leaf) (i j : ℕ) (d e : Leaf) → i ≡ j + 1 → i < length leaves → get_or (hangs_of a leaves) i 0 ≡ hang_of a (get_or leaves j d) (get_or leaves i e)
hang_at a leaves i j d e is low =
    let at : suc j ≡ i = omega (arith, is) in
    subst (λ k. get_or (hangs_of a leaves) k 0 ≡ hang_of a (get_or leaves j d) (get_or leaves k e)) at (hang_after a leaves j d e (omega (arith, is, low)))

-- ---- open rows

-- The open rows before row i: their indices and the generations at which they branch off.
pub record IsStack (hangs : List ℕ) (i : ℕ) (rows hs : List ℕ) : Type 0 where
  pub paired : length rows ≡ length hs
  pub rising : (k : ℕ) → k + 1 < length rows → get_or rows k 0 < get_or rows (k + 1) 0
  pub within : (k : ℕ) → k < length rows → get_or rows k 0 < i
  pub same : (k : ℕ) → k < length rows → get_or hangs (get_or rows k 0) 0 ≡ get_or hs k 0
  pub covers : (j : ℕ) → j < i → (k : ℕ) × (k < length rows) × (j ≤ get_or rows k 0) × (get_or hs k 0 ≤ get_or hangs j 0)

rises : (hangs : List ℕ) (i : ℕ) (rows hs : List ℕ) → IsStack hangs i rows hs → (k d m : ℕ) → m ≡ k + d → m < length rows → get_or rows k 0 ≤ get_or rows m 0
rises hangs i rows hs s k zero m is low =
    let at : k ≡ m = omega (arith, is) in
    subst (λ x. get_or rows k 0 ≤ get_or rows x 0) at (omega arith)
rises hangs i rows hs s k (suc d) m is low =
    let before = rises hangs i rows hs s k d (k + d) refl (omega (arith, is, low)) in
    let step = s.rising (k + d) (omega (arith, is, low)) in
    let at : (k + d) + 1 ≡ m = omega (arith, is) in
    subst (λ x. get_or rows k 0 ≤ get_or rows x 0) at (omega (arith, before, step))

-- The rows that stay open: n of them.
record Keeps (hangs : List ℕ) (h n p : ℕ) (rows hs : List ℕ) : Type 0 where
  few : n ≤ length rows
  high : (k : ℕ) → n ≤ k → k < length rows → h ≤ get_or hs k 0
  low : 0 < n → get_or hs (n - 1) 0 < h
  last : 0 < n → p ≡ get_or rows (n - 1) 0
  none : n ≡ 0 → p ≡ 0

no_parent : (h n p x : ℕ) → (0 < n → x < h) → (n ≡ 0 → p ≡ 0) → h ≡ 0 → p ≡ 0
no_parent h zero p x low none is = none refl
no_parent h (suc n) p x low none is = absurd (omega (arith, is, low (omega arith)))

some_left : (hangs : List ℕ) (i h n p : ℕ) (rows hs : List ℕ) → IsStack hangs i rows hs → Keeps hangs h n p rows hs → get_or hangs 0 0 ≡ 0 → 0 < i → 0 < h → 0 < n
some_left hangs i h zero p rows hs s keeps first some hang =
    let (k, low, at, most) = s.covers 0 some in
    absurd (omega (arith, first, hang, most, keeps.high k (omega arith) low))
some_left hangs i h (suc n) p rows hs s keeps first some hang = omega arith

has_rows : (i h : ℕ) → (i ≡ 0 → h ≡ 0) → 0 < h → 0 < i
has_rows zero h begins some = absurd (omega (arith, some, begins refl))
has_rows (suc i) h begins some = omega arith

last_before : (hangs : List ℕ) (i h n p : ℕ) (rows hs : List ℕ) → IsStack hangs i rows hs → Keeps hangs h n p rows hs → (j : ℕ) → p < j → j < i → h ≤ get_or hangs j 0
last_before hangs i h n p rows hs s keeps j after low =
    let (k, there, at, most) = s.covers j low in
    ⊎_elim (λ early. absurd (omega (arith, after, at, keeps.last (omega (arith, early)), rises hangs i rows hs s k ((n - 1) - k) (n - 1) (omega (arith, early)) (omega (arith, early, keeps.few)))))
    (λ late. omega (arith, most, keeps.high k late there)) (cases_lt k n)

parent_of_row : (hangs : List ℕ) (i h n p : ℕ) (rows hs : List ℕ) → IsStack hangs i rows hs → Keeps hangs h n p rows hs → get_or hangs 0 0 ≡ 0 → (i ≡ 0 → h ≡ 0) → h ≡ get_or hangs i 0 → IsParent hangs i p
parent_of_row hangs i h n p rows hs s keeps first begins is = record {
  none = λ zero_hang. no_parent h n p (get_or hs (n - 1) 0) keeps.low keeps.none (is ∙ zero_hang);
  earlier = λ hang.
      let left = some_left hangs i h n p rows hs s keeps first (has_rows i h begins (omega (arith, is, hang))) (omega (arith, is, hang)) in
      omega (arith, keeps.last left, s.within (n - 1) (omega (arith, left, keeps.few)));
  lower = λ hang.
      let left = some_left hangs i h n p rows hs s keeps first (has_rows i h begins (omega (arith, is, hang))) (omega (arith, is, hang)) in
      subst (λ x. get_or hangs x 0 < get_or hangs i 0) (sym (keeps.last left))
      (omega (arith, is, keeps.low left, s.same (n - 1) (omega (arith, left, keeps.few))));
  last = λ j after low. subst (λ x. x ≤ get_or hangs j 0) is (last_before hangs i h n p rows hs s keeps j after low);
}

-- ---- one more open row

kept_at : (xs : List ℕ) (n x k : ℕ) → n ≤ length xs → k < n → get_or (take n xs ++ x ∷ []) k 0 ≡ get_or xs k 0
kept_at xs n x k few low =
    get_or_append_left (take n xs) (x ∷ []) 0 k (subst (λ m. k < m) (sym (length-take-le n xs few)) low) ∙ get_or-take n xs k 0 low

new_at : (xs : List ℕ) (n x k : ℕ) → n ≤ length xs → k ≡ n → get_or (take n xs ++ x ∷ []) k 0 ≡ x
new_at xs n x k few is =
    subst (λ m. get_or (take n xs ++ x ∷ []) m 0 ≡ x) (length-take-le n xs few ∙ sym is) (get_or-append_seam (take n xs) x [] 0)

kept_length : (xs : List ℕ) (n x : ℕ) → n ≤ length xs → length (take n xs ++ x ∷ []) ≡ n + 1
kept_length xs n x few = length-append (take n xs) (x ∷ []) ∙ ap (λ m. m + 1) (length-take-le n xs few)

covers_earlier : (hangs : List ℕ) (i h n p : ℕ) (rows hs : List ℕ) → IsStack hangs i rows hs → Keeps hangs h n p rows hs → (j : ℕ) → j < i → (k : ℕ) × (k < length (take n rows ++ i ∷ [])) × (j ≤ get_or (take n rows ++ i ∷ []) k 0) × (get_or (take n hs ++ h ∷ []) k 0 ≤ get_or hangs j 0)
covers_earlier hangs i h n p rows hs s keeps j low =
    let few = keeps.few in
    let few_hs = subst (λ m. n ≤ m) s.paired few in
    let count = kept_length rows n i few in
    let (k, there, at, most) = s.covers j low in
    ⊎_elim
    (λ early. (k, omega (arith, early, count), omega (arith, at, kept_at rows n i k few early), omega (arith, most, kept_at hs n h k few_hs early)))
    (λ late. (n, omega (arith, count), omega (arith, low, new_at rows n i n few refl), omega (arith, most, keeps.high k late there, new_at hs n h n few_hs refl)))
    (cases_lt k n)

covers_itself : (hangs : List ℕ) (i h n p : ℕ) (rows hs : List ℕ) → IsStack hangs i rows hs → Keeps hangs h n p rows hs → h ≡ get_or hangs i 0 → (j : ℕ) → i ≡ j → (k : ℕ) × (k < length (take n rows ++ i ∷ [])) × (j ≤ get_or (take n rows ++ i ∷ []) k 0) × (get_or (take n hs ++ h ∷ []) k 0 ≤ get_or hangs j 0)
covers_itself hangs i h n p rows hs s keeps is j at =
    let few = keeps.few in
    let few_hs = subst (λ m. n ≤ m) s.paired few in
    let there = ap (λ x. get_or hangs x 0) at in
    (n, omega (arith, kept_length rows n i few), omega (arith, at, new_at rows n i n few refl), omega (arith, is, there, new_at hs n h n few_hs refl))

stack_next : (hangs : List ℕ) (i h n p : ℕ) (rows hs : List ℕ) → IsStack hangs i rows hs → Keeps hangs h n p rows hs → h ≡ get_or hangs i 0 → IsStack hangs (i + 1) (take n rows ++ i ∷ []) (take n hs ++ h ∷ [])
stack_next hangs i h n p rows hs s keeps is =
    let few = keeps.few in
    let few_hs = subst (λ m. n ≤ m) s.paired few in
    let count = kept_length rows n i few in
    record {
      paired = count ∙ sym (kept_length hs n h few_hs);
      rising = λ k low. ⊎_elim
          (λ early. omega (arith, early, kept_at rows n i k few (omega (arith, early)), kept_at rows n i (k + 1) few early, s.rising k (omega (arith, early, few))))
          (λ late. omega (arith, low, late, count, kept_at rows n i k few (omega (arith, low, late, count)), new_at rows n i (k + 1) few (omega (arith, low, late, count)), s.within k (omega (arith, low, few, count))))
          (cases_lt (k + 1) n);
      within = λ k low. ⊎_elim
          (λ early. omega (arith, kept_at rows n i k few early, s.within k (omega (arith, early, few))))
          (λ late. omega (arith, new_at rows n i k few (omega (arith, low, late, count)))) (cases_lt k n);
      same = λ k low. ⊎_elim
          (λ early. ap (λ x. get_or hangs x 0) (kept_at rows n i k few early) ∙ s.same k (omega (arith, early, few)) ∙ sym (kept_at hs n h k few_hs early))
          (λ late. ap (λ x. get_or hangs x 0) (new_at rows n i k few (omega (arith, low, late, count))) ∙ sym is ∙ sym (new_at hs n h k few_hs (omega (arith, low, late, count))))
          (cases_lt k n);
      covers = λ j low. ⊎_elim (λ early. covers_earlier hangs i h n p rows hs s keeps j early)
          (λ late. covers_itself hangs i h n p rows hs s keeps is j (omega (arith, low, late)))
          (cases_lt j i);
    }

-- ---- rows

-- The first i rows, and the open rows before row i.
pub record AreRowsUpTo (a : Ancestries) (leaves : List Leaf) (i : ℕ) (rows : List Row) (opened : List OpenRow) : Type 0 where
  pub hangs : map (λ r. r.hang) rows ≡ take i (hangs_of a leaves)
  pub firsts : map (λ r. r.first) rows ≡ take i (map (λ l. l.oldest) leaves)
  pub parents : (j : ℕ) → j < i → IsParent (hangs_of a leaves) j (get_or (map (λ r. r.parent) rows) j 0)
  pub stack : IsStack (hangs_of a leaves) i (open_rows opened) (open_hangs opened)

pub rows_begin : (a : Ancestries) (leaves : List Leaf) → AreRowsUpTo a leaves 0 [] []
rows_begin a leaves = record {
  hangs = refl;
  firsts = refl;
  parents = λ j low. absurd (omega (arith, low));
  stack = record {
    paired = refl;
    rising = λ k low. absurd (omega (arith, low));
    within = λ k low. absurd (omega (arith, low));
    same = λ k low. absurd (omega (arith, low));
    covers = λ j low. absurd (omega (arith, low));
  };
}

pub hang_above : (rows : List OpenRow) (k : ℕ) (r : OpenRow) → k < length rows → r ≡ get_or rows k r → get_or (open_hangs rows) k 0 ≡ r.hang
hang_above rows k r low is = get_or-map (λ (o : OpenRow). o.hang) rows k r 0 low ∙ ap (λ o. o.hang) (sym is)

pub at_last : (hang : ℕ) (hs : List ℕ) (j k : ℕ) → hang ≤ get_or hs j 0 → j ≡ k → hang ≤ get_or hs k 0
at_last hang hs j k most at = subst (λ x. hang ≤ get_or hs x 0) at most

keeps_from : (hangs : List ℕ) (h p : ℕ) (old new : List OpenRow) → Closes h old new p → Keeps hangs h (length new) p (open_rows old) (open_hangs old)
keeps_from hangs h p old new closes = record {
  few = subst (λ m. length new ≤ m) (sym (length-map old (λ r. r.row))) closes.few;
  high = λ k from low. closes.high k from (subst (λ m. k < m) (length-map old (λ r. r.row)) low);
  low = closes.low;
  last = closes.last;
  none = closes.none;
}

still_open : (f : OpenRow → ℕ) (old new : List OpenRow) (o : OpenRow) (x : ℕ) → new ≡ take (length new) old → f o ≡ x → map f (new ++ o ∷ []) ≡ take (length new) (map f old) ++ x ∷ []
still_open f old new o x rest is =
    map-append f new (o ∷ []) ∙ ap₂ (λ xs y. xs ++ y ∷ []) (ap (map f) rest ∙ sym (take-map f (length new) old)) is

own_at : (hs : List ℕ) (i j p : ℕ) (parents : List ℕ) → length parents ≡ i → i ≡ j → IsParent hs i p → IsParent hs j (get_or (parents ++ p ∷ []) j 0)
own_at hs i j p parents count at own =
    subst (λ x. IsParent hs x (get_or (parents ++ p ∷ []) x 0)) at
    (subst (λ q. IsParent hs i q) (sym (get_or-append_seam parents p [] 0) ∙ ap (λ x. get_or (parents ++ p ∷ []) x 0) count) own)

rows_and : (a : Ancestries) (leaves : List Leaf) (i : ℕ) (rows : List Row) (old new : List OpenRow) (row : Row) (o : OpenRow) (leaf : Leaf) → AreRowsUpTo a leaves i rows old → Closes row.hang old new row.parent → row.hang ≡ get_or (hangs_of a leaves) i 0 → i < length leaves → leaf ≡ get_or leaves i leaf → row.first ≡ leaf.oldest → o.hang ≡ row.hang → o.row ≡ i → AreRowsUpTo a leaves (i + 1) (rows ++ row ∷ []) (new ++ o ∷ [])
rows_and a leaves i rows old new row o leaf so_far closes is low is_leaf oldest hung at =
    let hs = hangs_of a leaves in
    let low_hs = subst (λ m. i < m) (sym (length-hangs a leaves)) low in
    let count = sym (length-map rows (λ r. r.hang)) ∙ ap length so_far.hangs ∙ length-take-le i hs (omega (arith, low_hs)) in
    let parents = map (λ (r : Row). r.parent) rows in
    let count_parents = length-map rows (λ r. r.parent) ∙ count in
    let keeps = keeps_from hs row.hang row.parent old new closes in
    let own = parent_of_row hs i row.hang (length new) row.parent (open_rows old) (open_hangs old) so_far.stack keeps (first_hang a leaves) (λ begin. is ∙ ap (λ x. get_or hs x 0) begin ∙ first_hang a leaves) is in
    record {
      hangs = map-append (λ r. r.hang) rows (row ∷ []) ∙ ap₂ (λ xs x. xs ++ x ∷ []) so_far.hangs is ∙ sym (take_more hs i 0 low_hs);
      firsts = map-append (λ r. r.first) rows (row ∷ [])
          ∙ ap₂ (λ xs x. xs ++ x ∷ []) so_far.firsts (oldest ∙ ap (λ (l : Leaf). l.oldest) is_leaf ∙ sym (get_or-map (λ (l : Leaf). l.oldest) leaves i leaf 0 low))
          ∙ sym (take_more (map (λ l. l.oldest) leaves) i 0 (subst (λ m. i < m) (sym (length-map leaves (λ l. l.oldest))) low));
      parents = λ j few. subst (λ ps. IsParent hs j (get_or ps j 0)) (sym (map-append (λ r. r.parent) rows (row ∷ [])))
          (⊎_elim
          (λ early. subst (λ p. IsParent hs j p) (sym (get_or_append_left parents (row.parent ∷ []) 0 j (omega (arith, early, count_parents)))) (so_far.parents j early))
          (λ late. own_at hs i j row.parent parents count_parents (omega (arith, few, late)) own)
          (cases_lt j i));
      stack = subst₂ (λ rs gs. IsStack hs (i + 1) rs gs) (sym (still_open (λ r. r.row) old new o i closes.rest at)) (sym (still_open (λ r. r.hang) old new o row.hang closes.rest hung))
          (stack_next hs i row.hang (length new) row.parent (open_rows old) (open_hangs old) so_far.stack keeps is);
    }

-- The rows after one more leaf.
pub rows_next : (a : Ancestries) (leaves : List Leaf) (i : ℕ) (rows rows' : List Row) (old new new' : List OpenRow) (row : Row) (o : OpenRow) (leaf : Leaf) → rows' ≡ rows ++ row ∷ [] → new' ≡ new ++ o ∷ [] → AreRowsUpTo a leaves i rows old → Closes row.hang old new row.parent → row.hang ≡ get_or (hangs_of a leaves) i 0 → i < length leaves → leaf ≡ get_or leaves i leaf → row.first ≡ leaf.oldest → o.hang ≡ row.hang → o.row ≡ i → AreRowsUpTo a leaves (i + 1) rows' new'
rows_next a leaves i rows rows' old new new' row o leaf is_rows is_new so_far closes is low is_leaf oldest hung at =
    subst₂ (λ rs os. AreRowsUpTo a leaves (i + 1) rs os) (sym is_rows) (sym is_new) (rows_and a leaves i rows old new row o leaf so_far closes is low is_leaf oldest hung at)

-- The rows after the last leaf, with their edges.
pub rows_whole : (a : Ancestries) (leaves : List Leaf) (i : ℕ) (old new : List Row) (opened : List OpenRow) → AreRowsUpTo a leaves i old opened → length leaves ≤ i → map (λ r. r.hang) new ≡ map (λ r. r.hang) old → map (λ r. r.parent) new ≡ map (λ r. r.parent) old → map (λ r. r.first) new ≡ map (λ r. r.first) old → map (λ r. r.below.items) new ≡ edges_by_row (map (λ r. r.hang) old) → AreRows a leaves new
rows_whole a leaves i old new opened so_far most hangs parents firsts below =
    let every = so_far.hangs ∙ take_all i (hangs_of a leaves) (subst (λ m. m ≤ i) (sym (length-hangs a leaves)) most) in
    record {
      hangs = hangs ∙ every;
      parents = λ j low. subst (λ ps. IsParent (hangs_of a leaves) j (get_or ps j 0)) (sym parents) (so_far.parents j (omega (arith, low, most)));
      firsts = firsts ∙ so_far.firsts ∙ take_all i (map (λ l. l.oldest) leaves) (subst (λ m. m ≤ i) (sym (length-map leaves (λ l. l.oldest))) most);
      below = below ∙ ap edges_by_row every;
    }

-- ---- edges

pub edges_some : (below : List ℕ) (hang : ℕ) → 0 < hang → edges_above below hang ≡ filter (λ g. nat_lt g hang) below ++ hang ∷ []
edges_some below zero some = absurd (omega (arith, some))
edges_some below (suc hang) some = ap (λ b. filter (λ g. nat_lt g (suc hang)) below ++ (if b then [] else suc hang ∷ [])) (eqb-suc-zero hang)

pub edges_none : (below : List ℕ) (hang : ℕ) → hang ≤ 0 → edges_above below hang ≡ filter (λ g. nat_lt g hang) below
edges_none below zero none = append-nil (filter (λ g. nat_lt g 0) below)
edges_none below (suc hang) none = absurd (omega (arith, none))

-- Rows i and later have their edges, and `edges` has the edges above row i.
pub record HasEdges (old new : List Row) (i : ℕ) (edges : List ℕ) : Type 0 where
  pub few : i ≤ length old
  pub hangs : map (λ r. r.hang) new ≡ map (λ r. r.hang) old
  pub parents : map (λ r. r.parent) new ≡ map (λ r. r.parent) old
  pub firsts : map (λ r. r.first) new ≡ map (λ r. r.first) old
  pub above : edges ≡ edges_of (drop i (map (λ r. r.hang) old))
  pub below : drop i (map (λ r. r.below.items) new) ≡ edges_by_row (drop i (map (λ r. r.hang) old))

same_length : (f : Row → ℕ) (old new : List Row) → map f new ≡ map f old → length new ≡ length old
same_length f old new is = sym (length-map new f) ∙ ap length is ∙ length-map old f

pub edges_count : (old new : List Row) (i : ℕ) (edges : List ℕ) → HasEdges old new i edges → length new ≡ length old
edges_count old new i edges has = same_length (λ x. x.hang) old new has.hangs

edges_and : (old rows : List Row) (j : ℕ) (edges next : List ℕ) (r d : Row) → HasEdges old rows (j + 1) edges → r.hang ≡ (get_or rows j d).hang → r.parent ≡ (get_or rows j d).parent → r.first ≡ (get_or rows j d).first → r.below.items ≡ edges → next ≡ edges_above edges r.hang → HasEdges old (set rows j r) j next
edges_and old rows j edges next r d has hang parent first below above =
    let hs = map (λ (x : Row). x.hang) old in
    let few = has.few in
    let count = edges_count old rows (j + 1) edges has in
    let low : j < length rows = omega (arith, few, count) in
    let low_hs : j < length hs = subst (λ m. j < m) (sym (length-map old (λ x. x.hang))) (omega (arith, few)) in
    let here = hang ∙ sym (get_or-map (λ (x : Row). x.hang) rows j d 0 low) ∙ ap (λ xs. get_or xs j 0) has.hangs in
    record {
      few = omega (arith, few);
      hangs = map-set_same (λ x. x.hang) rows j r d hang ∙ has.hangs;
      parents = map-set_same (λ x. x.parent) rows j r d parent ∙ has.parents;
      firsts = map-set_same (λ x. x.first) rows j r d first ∙ has.firsts;
      above = above ∙ ap₂ edges_above has.above here ∙ ap edges_of (sym (drop_more hs j 0 low_hs));
      below = ap (drop j) (map-set (λ x. x.below.items) rows j r)
          ∙ drop-set (map (λ x. x.below.items) rows) j r.below.items (subst (λ m. j < m) (sym (length-map rows (λ x. x.below.items))) low)
          ∙ ap₂ (λ x xs. x ∷ xs) (below ∙ has.above) has.below
          ∙ ap edges_by_row (sym (drop_more hs j 0 low_hs));
    }

-- The edges after one more row, which is row j.
pub edges_next : (old rows : List Row) (i j : ℕ) (edges next : List ℕ) (r d : Row) → i ≡ j + 1 → HasEdges old rows i edges → r.hang ≡ (get_or rows j d).hang → r.parent ≡ (get_or rows j d).parent → r.first ≡ (get_or rows j d).first → r.below.items ≡ edges → next ≡ edges_above edges r.hang → HasEdges old (set rows j r) j next
edges_next old rows i j edges next r d is has hang parent first below above =
    edges_and old rows j edges next r d (subst (λ k. HasEdges old rows k edges) is has) hang parent first below above
