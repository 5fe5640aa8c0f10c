-- The documents of a parcel, one at a time.
use Rattle.proof_prelude.proofs.{◌≡◌, ℕ, ◌+◌, ◌-◌, ◌<◌, ◌≤◌, Bool, true, false, ◌&&◌, ◌||◌, List, [], ◌∷◌, ◌++◌, length, take, drop, Option, Some, None, Result, Ok, Err, IfErr, slice_get, zero, suc, refl, sym, ap, ◌∙◌, subst, arith, or-false, or_assoc, cond-true, cond-false, cond_both, list_any-append, get_or, length-drop, drop_more, take_more, bytes_eq, take_all, nat_lt, option_map, set, same_Some, IfSome, ◌⊎◌, inl, inr, OnOk, OnErr, IsTrue, false≢true, drop_all, slice_get_within, get_or_from_slice_get}
use Rattle.rev_core.specs.{is_among, RevId}
use Rattle.rev_tree.specs.Tree.{answer_of, is_same}
use Rattle.rev_tree.specs.declared.fault.Contradiction.{Contradiction}
use Rattle.rev_tree.specs.declared.origin.Origin.{Origin}
use Rattle.doc_json.specs.Document.{Document}
use Rattle.couch_base.specs.{AreMade, Id, IsMadeOf, DatabaseValue, PreparedTree, WindowValue, none_some, any_left, most, tree_of, PutGives, is_changed, put_answer, put_told, after_put, BaseFault}
use Rattle.couch_base.specs.declared.fault.BaseFault.TheVariants as base_faults
use Rattle.couch_base.specs.declared.fault.Put.{Put}
use Rattle.repl_peer.specs.{SessionValue, RefusedValue, contradiction_of, refusal_of, in_ledger, is_ledgered, Settling, is_full, settle_as, settle_one, settle_docs, Halts, stops_as, stops_in, stops_at, settled_before, fed, with_arrival, with_refused, IndexesMore, IsIndexedWith, IsSameIndex, KeepsIndexed, Reached, ReachedAll, Steps, cause_at, settling_at, Cause, Reason, LedgerIndex}
use Rattle.repl_peer.specs.session.Settling.{cause_by_database}
use Rattle.repl_peer.specs.declared.fault.Cause.TheVariants as causes
use Rattle.repl_peer.specs.declared.fault.Reason.TheVariants as reasons

-- ---- prepared trees

-- the elements of a list after one was replaced
set_at : {X : Type 0} (xs : List X) (i : ℕ) (x : X) (j : ℕ) (y : X) → slice_get (set xs i x) j ≡ Some y → (slice_get xs j ≡ Some y) ⊎ ((j ≡ i) × (x ≡ y))
set_at [] i x j y at = inl at
set_at (z ∷ xs) zero x zero y at = inr (refl, same_Some x y at)
set_at (z ∷ xs) zero x (suc j) y at = inl at
set_at (z ∷ xs) (suc i) x zero y at = inl at
set_at (z ∷ xs) (suc i) x (suc j) y at = elim (set_at xs i x j y at) [ inl before ↦ inl before | inr here ↦ inr (ap suc here.0, here.1) ]

-- the remaining trees after one was taken
pub made_taken : (docs : List Document) (made : List (Option PreparedTree)) (i : ℕ) → AreMade docs made → AreMade docs (set made i None)
made_taken docs made i all j e n doc here =
    elim (set_at made i None j (Some n) here) [
      | inl before ↦ all j e n doc before
      | inr put ↦ absurd (none_some n put.1)
    ]

-- the tree at an index
pub made_at : (docs : List Document) (made : List (Option PreparedTree)) (i : ℕ) (d : Document) (m : Option PreparedTree) → AreMade docs made → slice_get docs i ≡ Some d → slice_get made i ≡ Some m → IfSome m (IsMadeOf d)
made_at docs made i d None all at here = tt
made_at docs made i d (Some n) all at here = all i d n at here

-- ---- one document

-- the index of the ledger with one more refused document
indexes_refused : (d : Document) (reason : Reason) (base old new : LedgerIndex) (s t : SessionValue) → IsIndexedWith d old new
    → t ≡ with_refused d reason s → IndexesMore base s.ledger old → IndexesMore base t.ledger new
indexes_refused d reason base old new s t noted e h id r =
    let x : RefusedValue = record { doc = d; reason = reason } in
    let here = bytes_eq d.id id && is_among r d.ancestry in
    let more : in_ledger (s.ledger ++ x ∷ []) id r ≡ (in_ledger s.ledger id r || here) =
    list_any-append (λ (y : RefusedValue). bytes_eq y.doc.id id && is_among r y.doc.ancestry) s.ledger (x ∷ []) ∙ ap (λ b. in_ledger s.ledger id r || b) (or-false here) in
    noted id r ∙ ap (λ b. b || here) (h id r) ∙ or_assoc (is_ledgered base id r) (in_ledger s.ledger id r) here
    ∙ ap (λ b. is_ledgered base id r || b) (sym more)
    ∙ ap (λ (x : SessionValue). is_ledgered base id r || in_ledger x.ledger id r) (sym e)

indexes_same : (base old new : LedgerIndex) (s t : SessionValue) → IsSameIndex old new → t.ledger ≡ s.ledger → IndexesMore base s.ledger old → IndexesMore base t.ledger new
indexes_same base old new s t same e h id r = same id r ∙ h id r ∙ ap (λ (l : List RefusedValue). is_ledgered base id r || in_ledger l id r) (sym e)

abbrev told_as : Contradiction → Reason
told_as c = reasons.Contradicting c.child c.known c.given

-- a stored document contradicts nothing
free_by : (c : Option Contradiction) (same room : Bool) (next : ℕ) (answer : Put) → put_told (answer_of c same) room next ≡ Ok answer → c ≡ None
free_by None same room next answer h = refl
free_by (Some c) same room next answer h = cc

accepted_by : (refuses : Document → Bool) (d : Document) (db : DatabaseValue) (answer : Put) → refuses d ≡ false → put_answer db d ≡ Ok answer → refusal_of refuses db d ≡ None
accepted_by refuses d db answer accepted ok =
    cond-false (refuses d) (Some reasons.Filtered) (option_map told_as (contradiction_of db d)) accepted
    ∙ ap (option_map told_as) (free_by (contradiction_of db d) (is_same (tree_of db.docs d.id) d.ancestry) (nat_lt db.update_seq most) (db.update_seq + 1) answer ok)

-- the index after a document is refused, or an allocation fails
pub indexes_by : {A E : Type 0} (r : Result A E) (d : Document) (reason : Reason) (base old new : LedgerIndex) (s t : SessionValue)
    → OnOk r (t ≡ with_refused d reason s) → OnOk r (IsIndexedWith d old new) → OnErr r (t ≡ s) → OnErr r (IsSameIndex old new)
    → IndexesMore base s.ledger old → IndexesMore base t.ledger new
indexes_by (Ok a) d reason base old new s t e noted kept same h = indexes_refused d reason base old new s t noted e h
indexes_by (Err f) d reason base old new s t e noted kept same h = indexes_same base old new s t same (ap (λ (x : SessionValue). x.ledger) kept) h

-- a document that is stored, or for which an allocation fails, does not stop for lack of a sequence
goes_by : (refuses : Document → Bool) (db : DatabaseValue) (d : Document) (answer : Put) → refuses d ≡ false → put_answer db d ≡ Ok answer → stops_in refuses db d ≡ false
goes_by refuses db d answer accepted ok = ap (stops_as db d) (accepted_by refuses d db answer accepted ok) ∙ ap is_full ok

-- a stored document arrives
arrives : (refuses : Document → Bool) (w : WindowValue) (db : DatabaseValue) (s : SessionValue) (d : Document) (answer : Put) → refuses d ≡ false → put_answer db d ≡ Ok answer
    → settle_one refuses w (settling_at db s) d ≡ settling_at (after_put db d (fed w s.id d)) (with_arrival d s)
arrives refuses w db s d answer accepted ok =
    let z = settling_at db s in
    ap (settle_as w z d) (accepted_by refuses d db answer accepted ok)
    ∙ cond-false (is_full (put_answer db d)) z (settling_at (after_put db d (fed w s.id d)) (with_arrival d s)) (ap is_full ok)

pub arrives_by : (refuses : Document → Bool) (o : Origin) (d : Document) (db db' : DatabaseValue) (s t : SessionValue) (answer : Put) → refuses d ≡ false → put_answer db d ≡ Ok answer
    → db' ≡ after_put db d o → t ≡ with_arrival d s → Steps refuses o d (settling_at db s) (settling_at db' t)
arrives_by refuses o d db db' s t answer accepted ok put arrived = record {
  goes = goes_by refuses db d answer accepted ok;
  step = λ w is. (λ i. settling_at ((put ∙ ap (after_put db d) is) i) (arrived i)) ∙ sym (arrives refuses w db s d answer accepted ok);
}

-- the error of a put of a document that contradicts nothing
full_by : (c : Option Contradiction) (same room : Bool) (next : ℕ) (fault : BaseFault) → put_told (answer_of c same) room next ≡ Err fault
    → ((child known given : RevId) → fault ≡ base_faults.Contradiction child known given → ⊥) → (c ≡ None) × (fault ≡ base_faults.SeqFull)
full_by (Some c) same room next fault h other = absurd (other c.child c.known c.given (cc))
full_by None true room next fault h other = absurd (cc)
full_by None false true next fault h other = absurd (cc)
full_by None false false next fault h other = (refl, cc)

given_by : (fault : BaseFault) (expected : Result Put BaseFault) → PutGives (Err fault) expected → ((fault ≡ base_faults.Memory) × (IsTrue (is_changed expected))) ⊎ (Err fault ≡ expected)
given_by base_faults.Memory expected h = inl (refl, h)
given_by fault expected h = inr h

changed_by : (r : Result Put BaseFault) → IsTrue (is_changed r) → (p : Put) × (r ≡ Ok p)
changed_by (Ok p) h = (p, refl)
changed_by (Err fault) h = absurd (false≢true h)

pub stops_by : (refuses : Document → Bool) (db : DatabaseValue) (d : Document) (fault : BaseFault) → refuses d ≡ false → PutGives (Err fault) (put_answer db d)
    → ((child known given : RevId) → fault ≡ base_faults.Contradiction child known given → ⊥) → cause_by_database fault ≡ cause_at (stops_in refuses db d)
stops_by refuses db d fault accepted gives other =
    elim (given_by fault (put_answer db d) gives) [
      | inl memory ↦
          let changed = changed_by (put_answer db d) memory.1 in
          ap cause_by_database memory.0 ∙ sym (ap cause_at (goes_by refuses db d changed.0 accepted changed.1))
      | inr told ↦
          let full = full_by (contradiction_of db d) (is_same (tree_of db.docs d.id) d.ancestry) (nat_lt db.update_seq most) (db.update_seq + 1) fault (sym told) other in
          let free = cond-false (refuses d) (Some reasons.Filtered) (option_map told_as (contradiction_of db d)) accepted ∙ ap (option_map told_as) full.0 in
          ap cause_by_database full.1
          ∙ sym (ap cause_at (ap (stops_as db d) free ∙ ap is_full (sym told) ∙ ap (λ (f : BaseFault). is_full (Err f)) full.1))
    ]

-- ---- documents in order

settle_end : (refuses : Document → Bool) (w : WindowValue) (z : Settling) (ds : List Document) (d : Document) → settle_docs refuses w z (ds ++ d ∷ []) ≡ settle_one refuses w (settle_docs refuses w z ds) d
settle_end refuses w z [] d = refl
settle_end refuses w z (x ∷ ds) d = settle_end refuses w (settle_one refuses w z x) ds d

pub before-le : (refuses : Document → Bool) (w : WindowValue) (z : Settling) (ds : List Document) → settled_before refuses w z ds ≤ length ds
before-le refuses w z [] = omega arith
before-le refuses w z (d ∷ ds) =
    let rest : settled_before refuses w (settle_one refuses w z d) ds ≤ length ds = before-le refuses w (settle_one refuses w z d) ds in
    cond_both (stops_at refuses z d) 0 (settled_before refuses w (settle_one refuses w z d) ds + 1) (λ n. n ≤ length (d ∷ ds))
    (λ _. omega arith)
    (λ _. omega (arith, rest))

pub goes_on : (refuses : Document → Bool) (w : WindowValue) (z : Settling) (d : Document) (ds : List Document) → stops_at refuses z d ≡ false → settled_before refuses w z (d ∷ ds) ≡ settled_before refuses w (settle_one refuses w z d) ds + 1
goes_on refuses w z d ds goes = cond-false (stops_at refuses z d) 0 (settled_before refuses w (settle_one refuses w z d) ds + 1) goes

pub halts : (refuses : Document → Bool) (w : WindowValue) (z : Settling) (d : Document) (ds : List Document) → stops_at refuses z d ≡ true → settled_before refuses w z (d ∷ ds) ≡ 0
halts refuses w z d ds stops = cond-true (stops_at refuses z d) 0 (settled_before refuses w (settle_one refuses w z d) ds + 1) stops

-- what is settled before the first document that stops is a prefix, followed by what is settled after it
settled_split : (refuses : Document → Bool) (w : WindowValue) (z : Settling) (ds : List Document) (n : ℕ) → n ≤ settled_before refuses w z ds
    → settled_before refuses w z ds ≡ n + settled_before refuses w (settle_docs refuses w z (take n ds)) (drop n ds)
settled_split refuses w z ds zero h = omega arith
settled_split refuses w z [] (suc n) h = absurd (omega (arith, h))
settled_split refuses w z (d ∷ ds) (suc n) h =
    elim (stops_at refuses z d) as (λ b. stops_at refuses z d ≡ b → settled_before refuses w z (d ∷ ds) ≡ suc n + settled_before refuses w (settle_docs refuses w (settle_one refuses w z d) (take n ds)) (drop n ds)) [
      | true ↦ λ stops. let none = halts refuses w z d ds stops in absurd (omega (arith, h, none))
      | false ↦ λ goes.
          let more = goes_on refuses w z d ds goes in
          let rest = settled_split refuses w (settle_one refuses w z d) ds n (omega (arith, h, more)) in
          omega (arith, more, rest)
    ] refl

drop_tail : {X : Type 0} (xs : List X) (n : ℕ) (x : X) (rest : List X) → x ∷ rest ≡ drop n xs → (rest ≡ drop (n + 1) xs) × (take (n + 1) xs ≡ take n xs ++ x ∷ []) × (n < length xs)
drop_tail xs n x rest h =
    let some : 0 < length (drop n xs) = subst (λ l. 0 < length l) h (omega arith) in
    let within : n < length xs = omega (arith, some, length-drop n xs) in
    let parts = h ∙ drop_more xs n x within in
    let head : x ≡ get_or xs n x = ap (λ l. get_or l 0 x) parts in
    (ap (drop 1) parts, take_more xs n x within ∙ ap (λ y. take n xs ++ y ∷ []) (sym head), within)

pub reached_none : (refuses : Document → Bool) (w : WindowValue) (z : Settling) (ds : List Document) → Reached refuses w z ds 0 ds z
reached_none refuses w z ds = record { within = omega arith; rest = refl; settling = refl }

reached_next : (refuses : Document → Bool) (w : WindowValue) (z mid after : Settling) (ds : List Document) (n : ℕ) (d : Document) (rest : List Document)
    → Reached refuses w z ds n (d ∷ rest) mid → stops_at refuses mid d ≡ false → after ≡ settle_one refuses w mid d → Reached refuses w z ds (n + 1) rest after
reached_next refuses w z mid after ds n d rest h goes step =
    let parts = drop_tail ds n d rest h.rest in
    let split = settled_split refuses w z ds n h.within in
    let more : settled_before refuses w (settle_docs refuses w z (take n ds)) (drop n ds) ≡ settled_before refuses w (settle_one refuses w mid d) rest + 1 =
    (λ i. settled_before refuses w (sym h.settling i) (sym h.rest i)) ∙ goes_on refuses w mid d rest goes in
    record {
      within = omega (arith, split, more);
      rest = parts.0;
      settling = step ∙ ap (λ m. settle_one refuses w m d) h.settling ∙ sym (ap (settle_docs refuses w z) parts.1 ∙ settle_end refuses w z (take n ds) d);
    }

pub reached_full : (refuses : Document → Bool) (w : WindowValue) (z mid : Settling) (ds : List Document) (n : ℕ) (d : Document) (rest : List Document)
    → Reached refuses w z ds n (d ∷ rest) mid → stops_at refuses mid d ≡ true → (n ≡ settled_before refuses w z ds) × (n < length ds)
reached_full refuses w z mid ds n d rest h stops =
    let parts = drop_tail ds n d rest h.rest in
    let split = settled_split refuses w z ds n h.within in
    let none : settled_before refuses w (settle_docs refuses w z (take n ds)) (drop n ds) ≡ 0 =
    (λ i. settled_before refuses w (sym h.settling i) (sym h.rest i)) ∙ halts refuses w mid d rest stops in
    (omega (arith, split, none), parts.2)

reached_all : (refuses : Document → Bool) (w : WindowValue) (z after : Settling) (ds : List Document) (n : ℕ) → Reached refuses w z ds n [] after → ReachedAll refuses w z ds after
reached_all refuses w z after ds n h =
    let none : 0 ≡ length ds - n = ap length h.rest ∙ length-drop n ds in
    let some = before-le refuses w z ds in
    record {
      all = omega (arith, none, some, h.within);
      settling = h.settling ∙ ap (settle_docs refuses w z) (take_all n ds (omega (arith, none)));
    }

-- the documents from an index on
cut_at : (ds : List Document) (n : ℕ) (d : Document) → slice_get ds n ≡ Some d → drop n ds ≡ d ∷ drop (n + 1) ds
cut_at ds n d at = drop_more ds n d (slice_get_within ds n d at) ∙ ap (λ (x : Document). x ∷ drop (n + 1) ds) (get_or_from_slice_get ds n d d at)

-- the document at the index is settled too
pub reached_at : (refuses : Document → Bool) (w : WindowValue) (z mid after : Settling) (ds : List Document) (n : ℕ) (d : Document)
    → Reached refuses w z ds n (drop n ds) mid → slice_get ds n ≡ Some d → stops_at refuses mid d ≡ false → after ≡ settle_one refuses w mid d
    → Reached refuses w z ds (n + 1) (drop (n + 1) ds) after
reached_at refuses w z mid after ds n d h at goes step =
    reached_next refuses w z mid after ds n d (drop (n + 1) ds) (subst (λ (l : List Document). Reached refuses w z ds n l mid) (cut_at ds n d at) h) goes step

-- no document is left
pub reached_end : (refuses : Document → Bool) (w : WindowValue) (z after : Settling) (ds : List Document) (n : ℕ) → Reached refuses w z ds n (drop n ds) after → length ds ≤ n → ReachedAll refuses w z ds after
reached_end refuses w z after ds n h end =
    reached_all refuses w z after ds n (subst (λ (l : List Document). Reached refuses w z ds n l after) (drop_all n ds end) h)

-- all are settled, as the longest prefix
pub reached_whole : (refuses : Document → Bool) (w : WindowValue) (z after : Settling) (ds : List Document) → ReachedAll refuses w z ds after → Reached refuses w z ds (length ds) [] after
reached_whole refuses w z after ds h = record {
  within = omega (arith, h.all);
  rest = sym (drop_all (length ds) ds (omega arith));
  settling = h.settling ∙ sym (ap (settle_docs refuses w z) (take_all (length ds) ds (omega arith)));
}

-- a document that stops leaves the settled ones
pub reached_kept : (refuses : Document → Bool) (w : WindowValue) (z : Settling) (db db' : DatabaseValue) (s t : SessionValue) (ds : List Document) (n : ℕ)
    → db' ≡ db → t ≡ s → Reached refuses w z ds n (drop n ds) (settling_at db s) → Reached refuses w z ds n (drop n ds) (settling_at db' t)
reached_kept refuses w z db db' s t ds n base same h =
    subst (Reached refuses w z ds n (drop n ds)) (λ i. settling_at (sym base i) (sym same i)) h

-- ---- the effect of documents on the session

-- the counts of leaves stay, and those of documents grow
pub record Grows (s t : SessionValue) : Type 0 where
  pub id : t.id ≡ s.id
  pub rep : t.rep ≡ s.rep
  pub checked : t.counts.checked ≡ s.counts.checked
  pub found : t.counts.found ≡ s.counts.found
  pub written : s.counts.written ≤ t.counts.written
  pub failures : s.counts.failures ≤ t.counts.failures
  pub ledger : (id : Id) (r : RevId) → in_ledger s.ledger id r ≡ true → in_ledger t.ledger id r ≡ true

grows_later : (a b c : SessionValue) → Grows a b → Grows b c → Grows a c
grows_later a b c h k = record {
  id = k.id ∙ h.id;
  rep = k.rep ∙ h.rep;
  checked = k.checked ∙ h.checked;
  found = k.found ∙ h.found;
  written = omega (arith, h.written, k.written);
  failures = omega (arith, h.failures, k.failures);
  ledger = λ id r there. k.ledger id r (h.ledger id r there);
}

grows_as : (w : WindowValue) (z : Settling) (d : Document) (o : Option Reason) → Grows z.session (settle_as w z d o).session
grows_as w z d (Some reason) =
    record {
      id = refl;
      rep = refl;
      checked = refl;
      found = refl;
      written = omega arith;
      failures = omega arith;
      ledger = λ id r there. any_left (λ (x : RefusedValue). bytes_eq x.doc.id id && is_among r x.doc.ancestry) z.session.ledger (record { doc = d; reason = reason } ∷ []) there;
    }
grows_as w z d None =
    cond_both (is_full (put_answer z.db d)) z (record { db = after_put z.db d (fed w z.session.id d); session = with_arrival d z.session }) (λ (y : Settling). Grows z.session y.session)
    (λ _. record { id = refl; rep = refl; checked = refl; found = refl; written = omega arith; failures = omega arith; ledger = λ id r there. there })
    (λ _. record { id = refl; rep = refl; checked = refl; found = refl; written = omega arith; failures = omega arith; ledger = λ id r there. there })

pub grows : (refuses : Document → Bool) (w : WindowValue) (z : Settling) (ds : List Document) → Grows z.session (settle_docs refuses w z ds).session
grows refuses w z [] = record { id = refl; rep = refl; checked = refl; found = refl; written = omega arith; failures = omega arith; ledger = λ id r there. there }
grows refuses w z (d ∷ ds) =
    grows_later z.session (settle_one refuses w z d).session (settle_docs refuses w z (d ∷ ds)).session (grows_as w z d (refusal_of refuses z.db d)) (grows refuses w (settle_one refuses w z d) ds)

-- ---- why documents stop

-- why the next document stops
halts_at : (refuses : Document → Bool) (w : WindowValue) (z mid : Settling) (ds : List Document) (n : ℕ) (d : Document) (rest : List Document) → Reached refuses w z ds n (d ∷ rest) mid → (b : Bool) → stops_at refuses mid d ≡ b → Halts refuses w z ds n (cause_at b)
halts_at refuses w z mid ds n d rest h true stops = reached_full refuses w z mid ds n d rest h stops
halts_at refuses w z mid ds n d rest h false goes =
    λ within. let next = (reached_next refuses w z mid (settle_one refuses w mid d) ds n d rest h goes refl).within in omega (arith, next)

halts_next : (refuses : Document → Bool) (w : WindowValue) (z mid : Settling) (ds : List Document) (n : ℕ) (d : Document) (rest : List Document) (cause : Cause) → Reached refuses w z ds n (d ∷ rest) mid → cause ≡ cause_at (stops_in refuses mid.db d) → Halts refuses w z ds n cause
halts_next refuses w z mid ds n d rest cause h why = subst (Halts refuses w z ds n) (sym why) (halts_at refuses w z mid ds n d rest h (stops_in refuses mid.db d) refl)

halts_by : (refuses : Document → Bool) (w : WindowValue) (z mid : Settling) (ds : List Document) (n : ℕ) (d : Document) (cause : Cause)
    → Reached refuses w z ds n (drop n ds) mid → slice_get ds n ≡ Some d → cause ≡ cause_at (stops_in refuses mid.db d) → Halts refuses w z ds n cause
halts_by refuses w z mid ds n d cause h at why =
    halts_next refuses w z mid ds n d (drop (n + 1) ds) cause (subst (λ (l : List Document). Reached refuses w z ds n l mid) (cut_at ds n d at) h) why

pub halts_first : (refuses : Document → Bool) (w : WindowValue) (z : Settling) (ds : List Document) (d : Document) (cause : Cause)
    → slice_get ds 0 ≡ Some d → cause ≡ cause_at (stops_in refuses z.db d) → Halts refuses w z ds 0 cause
halts_first refuses w z ds d cause at why = halts_by refuses w z z ds 0 d cause (reached_none refuses w z ds) at why

-- why documents stop after the prepared ones
pub halts_stop : (refuses : Document → Bool) (w : WindowValue) (z z' mid : Settling) (ds : List Document) (n : ℕ) (cause : Cause) → z ≡ z' → Reached refuses w z ds n (drop n ds) mid
    → (d : Document) × (slice_get ds n ≡ Some d) × (cause ≡ cause_at (stops_in refuses mid.db d)) → Halts refuses w z' ds n cause
halts_stop refuses w z z' mid ds n cause same h why = subst (λ (y : Settling). Halts refuses w y ds n cause) same (halts_by refuses w z mid ds n why.0 cause h why.1 why.2)

-- there are no documents
pub halts_none : (refuses : Document → Bool) (w : WindowValue) (z : Settling) (ds : List Document) → slice_get ds 0 ≡ None → Halts refuses w z ds 0 causes.Memory
halts_none refuses w z [] none = λ within. absurd (omega (arith, within))
halts_none refuses w z (d ∷ ds) none = absurd (none_some d (sym none))

-- no document is left
pub halts_end : (refuses : Document → Bool) (w : WindowValue) (z mid : Settling) (ds : List Document) (n : ℕ) → Reached refuses w z ds n [] mid → Halts refuses w z ds n causes.Memory
halts_end refuses w z mid ds n h = λ within. let none : 0 ≡ length ds - n = ap length h.rest ∙ length-drop n ds in absurd (omega (arith, none, within))

pub OnOk_then : {A E : Type 0} {P Q : Type 0} (r : Result A E) → (P → Q) → OnOk r P → OnOk r Q
OnOk_then (Ok x) f h = f h
OnOk_then (Err e) f h = tt

pub IfErr_both : {A E : Type 0} {P Q R : E → Type 0} (r : Result A E) → ((e : E) → P e → Q e → R e) → IfErr r P → IfErr r Q → IfErr r R
IfErr_both (Ok x) f p q = tt
IfErr_both (Err e) f p q = f e p q

pub grown_by : (refuses : Document → Bool) (w : WindowValue) (z after : Settling) (docs others : List Document) (n : ℕ) → Reached refuses w z docs n others after → Grows z.session after.session
grown_by refuses w z after docs others n h = subst (λ (y : Settling). Grows z.session y.session) (sym h.settling) (grows refuses w z (take n docs))

-- what is kept while documents are settled
pub keeps_reached : (refuses : Document → Bool) (w : WindowValue) (z after : Settling) (docs others : List Document) (n : ℕ) (index index' : LedgerIndex) → Reached refuses w z docs n others after
    → ((base : LedgerIndex) → IndexesMore base z.session.ledger index → IndexesMore base after.session.ledger index') → KeepsIndexed z.session index after.session index'
keeps_reached refuses w z after docs others n index index' h indexed =
    let grown = grown_by refuses w z after docs others n h in
    record { id = grown.id; rep = grown.rep; ledger = grown.ledger; indexed = indexed }

-- what is kept when the window is marked
pub keeps_marked : (s mid t : SessionValue) (index index' : LedgerIndex) → KeepsIndexed s index mid index' → t.id ≡ mid.id → t.rep ≡ mid.rep → t.ledger ≡ mid.ledger → KeepsIndexed s index t index'
keeps_marked s mid t index index' h id rep ledger = record {
  id = id ∙ h.id;
  rep = rep ∙ h.rep;
  ledger = λ i r e. ap (λ (l : List RefusedValue). in_ledger l i r) ledger ∙ h.ledger i r e;
  indexed = λ base e. subst (λ (l : List RefusedValue). IndexesMore base l index') (sym ledger) (h.indexed base e);
}
