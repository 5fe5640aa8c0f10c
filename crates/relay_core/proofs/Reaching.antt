-- What is known of a history is known behind one exchange more.
use Rattle.proof_prelude.proofs.{ℕ, ◌≡◌, ◌+◌, ◌-◌, ◌^◌, ◌≤◌, inl, inr, Bool, true, false, ◌&&◌, ◌||◌, not, List, [], ◌∷◌, ◌++◌, Option, min, refl, sym, ap, subst, ◌∙◌, arith, append-nil, or_cases, or_left, or_right, cases_Bool, false≢true, list_any-append, and_parts, and_from, bytes_eq}
use Rattle.relay_core.specs.declared.messages.Side.{Side}
use Rattle.relay_core.specs.declared.messages.Side.TheVariants.{Source, Target}
use Rattle.relay_core.specs.Messages.{Text, DocView, PageView, RowErrorView, LogView, NoticeView, CheckpointView, get_log, get_changes, revs_diff, carry_docs, put_log, tell, ResponseView, log_response, page_response, missing_response, row_errors_response, rejected_response, Exchange, exchange_of}
use Rattle.relay_core.specs.Leaves.{names, are_distinct, have_leaves, leaf_count, docs_where, are_about, refusals_in, cover, too_large_rows, is_alone}
use Rattle.relay_core.specs.Justified.{is_too_large, is_found, is_rejected, not_found, newest_common, seq_of, Reached, begun, paged, AreReady, IsReady, log_of}
use Rattle.relay_core.specs.Known.{IsReachedFrom, IsRead, IsOpen}
use Rattle.relay_core.proofs.Filtering.{names-docs_where, docs_where-docs_where, docs_where_congr, are_distinct-docs_where, docs_where-all, about_covered}

-- ---- numbers

from_zero : (n : ℕ) → 0 ≤ n
from_zero n = omega arith

at_most : (n f k l top : ℕ) → l ≡ k → min n top ≤ f → min (n + k) top ≤ min (f + l) top
at_most n f k l top e b = omega arith

-- ---- one exchange more

pub Reached-more : (e : Exchange) {begin : Text} {h : List Exchange} {s : Text} {n : ℕ} → Reached begin h s n → Reached begin (e ∷ h) s n
Reached-more e (begun is none) = begun is none
Reached-more e (paged before after rest since wait page m is reached settled last_is count) =
    paged before after (e ∷ rest) since wait page m (ap (λ (xs : List Exchange). e ∷ xs) is) reached settled last_is count

pub Reached-behind : (later : List Exchange) {begin : Text} {h : List Exchange} {s : Text} {n : ℕ} → Reached begin h s n → Reached begin (later ++ h) s n
Reached-behind [] r = r
Reached-behind (e ∷ later) r = Reached-more e (Reached-behind later r)

pub IsReachedFrom-more : (e : Exchange) {h : List Exchange} {begin since : Text} {failures : ℕ} → IsReachedFrom h begin since failures → IsReachedFrom (e ∷ h) begin since failures
IsReachedFrom-more e r = record { rejected = r.rejected; reached = Reached-more e r.reached; counted = r.counted }

IsReachedFrom-behind : (later : List Exchange) {h : List Exchange} {begin since : Text} {failures : ℕ} → IsReachedFrom h begin since failures → IsReachedFrom (later ++ h) begin since failures
IsReachedFrom-behind later r = record { rejected = r.rejected; reached = Reached-behind later r.reached; counted = r.counted }

-- a run begins
pub begins : (h : List Exchange) (begin since : Text) (failures : ℕ) → begin ≡ since → IsReachedFrom h begin since failures
begins h begin since failures is = record { rejected = 0; reached = begun is refl; counted = from_zero failures }

-- ---- the logs

-- the target's log is answered
pub reads : {h : List Exchange} {begin since : Text} {failures : ℕ} (target : LogView) → IsReachedFrom h begin since failures → IsRead (exchange_of (get_log Target) (log_response target) ∷ h) begin since failures target
reads {h = h} target r = record {
  before = h;
  later = exchange_of (get_log Target) (log_response target) ∷ [];
  is = refl;
  target_is = refl;
  reached = r;
}

pub reads_as : {h : List Exchange} {begin since : Text} {failures : ℕ} (target : LogView) (r : ResponseView) → r ≡ log_response target → IsReachedFrom h begin since failures → IsRead (exchange_of (get_log Target) r ∷ h) begin since failures target
reads_as {h = h} {begin = begin} {since = since} {failures = failures} target r is k =
    subst (λ (x : ResponseView). IsRead (exchange_of (get_log Target) x ∷ h) begin since failures target) (sym is) (reads target k)

pub IsRead-told : (notice : NoticeView) (r : ResponseView) {h : List Exchange} {begin since : Text} {failures : ℕ} {target : LogView} → IsRead h begin since failures target → IsRead (exchange_of (tell notice) r ∷ h) begin since failures target
IsRead-told notice r k = record {
  before = k.before;
  later = exchange_of (tell notice) r ∷ k.later;
  is = ap (λ (xs : List Exchange). exchange_of (tell notice) r ∷ xs) k.is;
  target_is = k.target_is;
  reached = k.reached;
}

pub reached_by : {h : List Exchange} {begin since : Text} {failures : ℕ} {target : LogView} → IsRead h begin since failures target → IsReachedFrom h begin since failures
reached_by {begin = begin} {since = since} {failures = failures} k =
    subst (λ (xs : List Exchange). IsReachedFrom xs begin since failures) (sym k.is) (IsReachedFrom-behind k.later k.reached)

-- the source's log is answered too, and both say where the run began
pub readies : {h : List Exchange} {begin since : Text} {failures : ℕ} (target source : LogView) (r : ResponseView) → r ≡ log_response source → seq_of (newest_common target.history source.history) ≡ begin → IsRead h begin since failures target → AreReady (exchange_of (get_log Source) r ∷ h) target source since failures
readies {h = h} {begin = begin} {since = since} {failures = failures} target source r is same k =
    subst (λ (x : ResponseView). AreReady (exchange_of (get_log Source) x ∷ h) target source since failures) (sym is)
    record {
      before = k.before;
      later = exchange_of (get_log Source) (log_response source) ∷ k.later;
      is = ap (λ (xs : List Exchange). exchange_of (get_log Source) (log_response source) ∷ xs) k.is;
      target_is = k.target_is;
      source_is = refl;
      rejected = k.reached.rejected;
      reached = subst (λ (b : Text). Reached b k.before since k.reached.rejected) (sym same) k.reached.reached;
      counted = k.reached.counted;
    }

-- .. or where the run begins now
pub readies_anew : {h : List Exchange} {begin since : Text} {failures : ℕ} (target source : LogView) (r : ResponseView) (s : Text) (count : ℕ) → r ≡ log_response source → seq_of (newest_common target.history source.history) ≡ s → IsRead h begin since failures target → AreReady (exchange_of (get_log Source) r ∷ h) target source s count
readies_anew {h = h} target source r s count is same k =
    subst (λ (x : ResponseView). AreReady (exchange_of (get_log Source) x ∷ h) target source s count) (sym is)
    record {
      before = k.before;
      later = exchange_of (get_log Source) (log_response source) ∷ k.later;
      is = ap (λ (xs : List Exchange). exchange_of (get_log Source) (log_response source) ∷ xs) k.is;
      target_is = k.target_is;
      source_is = refl;
      rejected = 0;
      reached = begun same refl;
      counted = from_zero count;
    }

-- the target's log is written, or a notice told
pub AreReady-put : (side : Side) (log : LogView) (checkpoint : CheckpointView) (r : ResponseView) {h : List Exchange} {target source : LogView} {s : Text} {failures : ℕ} → AreReady h target source s failures → AreReady (exchange_of (put_log side log checkpoint) r ∷ h) target source s failures
AreReady-put side log checkpoint r k = record {
  before = k.before;
  later = exchange_of (put_log side log checkpoint) r ∷ k.later;
  is = ap (λ (xs : List Exchange). exchange_of (put_log side log checkpoint) r ∷ xs) k.is;
  target_is = k.target_is;
  source_is = k.source_is;
  rejected = k.rejected;
  reached = k.reached;
  counted = k.counted;
}

pub AreReady-told : (notice : NoticeView) (r : ResponseView) {h : List Exchange} {target source : LogView} {s : Text} {failures : ℕ} → AreReady h target source s failures → AreReady (exchange_of (tell notice) r ∷ h) target source s failures
AreReady-told notice r k = record {
  before = k.before;
  later = exchange_of (tell notice) r ∷ k.later;
  is = ap (λ (xs : List Exchange). exchange_of (tell notice) r ∷ xs) k.is;
  target_is = k.target_is;
  source_is = k.source_is;
  rejected = k.rejected;
  reached = k.reached;
  counted = k.counted;
}

pub IsReady-told : (notice : NoticeView) (r : ResponseView) {h : List Exchange} {side : Side} {log : LogView} {s : Text} {failures : ℕ} → IsReady h side log s failures → IsReady (exchange_of (tell notice) r ∷ h) side log s failures
IsReady-told notice r k = record { target = k.target; source = k.source; ready = AreReady-told notice r k.ready; own = k.own }

pub ready_for : (side : Side) {h : List Exchange} {target source : LogView} {s : Text} {failures : ℕ} → AreReady h target source s failures → IsReady h side (log_of side target source) s failures
ready_for side {target = target} {source = source} k = record { target = target; source = source; ready = k; own = refl }

-- ---- a page

-- a page is answered
pub opens : {h : List Exchange} {begin since : Text} {failures : ℕ} (wait : Option ℕ) (page : PageView) (r : ResponseView) → r ≡ page_response page → are_distinct page.rows ≡ true → have_leaves page.rows ≡ true → IsReachedFrom h begin since failures → IsOpen (exchange_of (get_changes since wait) r ∷ h) begin since page.last_seq failures page.rows []
opens {h = h} {begin = begin} {since = since} {failures = failures} wait page r is distinct full k =
    subst (λ (x : ResponseView). IsOpen (exchange_of (get_changes since wait) x ∷ h) begin since page.last_seq failures page.rows []) (sym is)
    record {
      before = h;
      after = [];
      wait = wait;
      page = page;
      is = refl;
      reached = k;
      last_is = refl;
      missing_is = sym (docs_where-all page.rows full);
      distinct = distinct;
      rejected = λ id leaf about. absurd (false≢true about);
    }

pub IsOpen-told : (notice : NoticeView) (r : ResponseView) {h : List Exchange} {begin since last : Text} {failures : ℕ} {missing : List DocView} {rows : List RowErrorView} → IsOpen h begin since last failures missing rows → IsOpen (exchange_of (tell notice) r ∷ h) begin since last failures missing rows
IsOpen-told notice r o = record {
  before = o.before;
  after = exchange_of (tell notice) r ∷ o.after;
  wait = o.wait;
  page = o.page;
  is = ap (λ (xs : List Exchange). exchange_of (tell notice) r ∷ xs) o.is;
  reached = o.reached;
  last_is = o.last_is;
  missing_is = o.missing_is;
  distinct = o.distinct;
  rejected = o.rejected;
}

-- whether a leaf is still not found, by cases
still : (found distinct named_in missing : Bool) → distinct ≡ true → (found ≡ false → named_in ≡ true) → (not found && missing) ≡ not ((distinct && (named_in && not missing)) || found)
still found false n m d a = absurd (false≢true d)
still true true true true d a = refl
still true true true false d a = refl
still true true false true d a = refl
still true true false false d a = refl
still false true false m d a = absurd (false≢true (a refl))
still false true true true d a = refl
still false true true false d a = refl

-- the target is asked for the open leaves
asks_again : {h : List Exchange} {begin since last : Text} {failures : ℕ} {docs : List DocView} {rows : List RowErrorView} (named : List DocView) → IsOpen h begin since last failures docs rows → IsOpen (exchange_of (revs_diff docs) (missing_response named) ∷ h) begin since last failures (docs_where (λ id leaf. names named id leaf) docs) rows
asks_again {docs = docs} {rows = rows} named o =
    let e : Exchange = exchange_of (revs_diff docs) (missing_response named) in
    let was : Text → Text → Bool = λ id leaf. not (is_found o.after id leaf) in
    let distinct : are_distinct docs ≡ true = subst (λ (ds : List DocView). are_distinct ds ≡ true) (sym o.missing_is) (are_distinct-docs_where was o.page.rows o.distinct) in
    let open_is : (id leaf : Text) → names o.page.rows id leaf ≡ true → is_found o.after id leaf ≡ false → names docs id leaf ≡ true =
    λ id leaf n fails. subst (λ (ds : List DocView). names ds id leaf ≡ true) (sym o.missing_is) (names-docs_where was o.page.rows id leaf n (ap not fails)) in
    record {
      before = o.before;
      after = e ∷ o.after;
      wait = o.wait;
      page = o.page;
      is = ap (λ (xs : List Exchange). e ∷ xs) o.is;
      reached = o.reached;
      last_is = o.last_is;
      missing_is = ap (λ (ds : List DocView). docs_where (λ id leaf. names named id leaf) ds) o.missing_is
          ∙ docs_where-docs_where was (λ id leaf. names named id leaf) o.page.rows
          ∙ docs_where_congr (λ id leaf. was id leaf && names named id leaf) (λ id leaf. not (is_found (e ∷ o.after) id leaf)) o.page.rows
          (λ id leaf n. still (is_found o.after id leaf) (are_distinct docs) (names docs id leaf) (names named id leaf) distinct (open_is id leaf n));
      distinct = o.distinct;
      rejected = o.rejected;
    }

pub asks : {h : List Exchange} {begin since last : Text} {failures : ℕ} {docs : List DocView} {rows : List RowErrorView} (named missing : List DocView) (r : ResponseView) → r ≡ missing_response named → missing ≡ docs_where (λ id leaf. names named id leaf) docs → IsOpen h begin since last failures docs rows → IsOpen (exchange_of (revs_diff docs) r ∷ h) begin since last failures missing rows
asks {h = h} {begin = begin} {since = since} {last = last} {failures = failures} {docs = docs} {rows = rows} named missing r is missing_is o =
    subst (λ (x : ResponseView). IsOpen (exchange_of (revs_diff docs) x ∷ h) begin since last failures missing rows) (sym is)
    (subst (λ (ds : List DocView). IsOpen (exchange_of (revs_diff docs) (missing_response named) ∷ h) begin since last failures ds rows) (sym missing_is) (asks_again named o))

-- some rows more, each about leaves that the carry rejects
carries : {h : List Exchange} {begin since last : Text} {failures : ℕ} {missing : List DocView} {rows : List RowErrorView} (docs : List DocView) (r : ResponseView) (more : List RowErrorView) → ((id leaf : Text) → are_about more id leaf ≡ true → is_rejected (exchange_of (carry_docs docs) r ∷ []) id leaf ≡ true) → IsOpen h begin since last failures missing rows → IsOpen (exchange_of (carry_docs docs) r ∷ h) begin since last failures missing (rows ++ more)
carries {rows = rows} docs r more why o =
    let e : Exchange = exchange_of (carry_docs docs) r in
    record {
      before = o.before;
      after = e ∷ o.after;
      wait = o.wait;
      page = o.page;
      is = ap (λ (xs : List Exchange). e ∷ xs) o.is;
      reached = o.reached;
      last_is = o.last_is;
      missing_is = o.missing_is;
      distinct = o.distinct;
      rejected = λ id leaf about.
          elim (or_cases (are_about rows id leaf) (are_about more id leaf) (sym (list_any-append _ rows more) ∙ about)) [
            | inl old ↦ or_right _ (is_rejected o.after id leaf) (o.rejected id leaf old)
            | inr new ↦ elim (or_cases _ false (why id leaf new)) [ inl holds ↦ or_left _ (is_rejected o.after id leaf) holds | inr fails ↦ absurd (false≢true fails) ]
          ];
    }

-- the rows of a carry are answered
pub carries_rows : {h : List Exchange} {begin since last : Text} {failures : ℕ} {missing : List DocView} {rows : List RowErrorView} (docs : List DocView) (answered all : List RowErrorView) (r : ResponseView) → r ≡ row_errors_response answered → all ≡ rows ++ refusals_in answered → IsOpen h begin since last failures missing rows → IsOpen (exchange_of (carry_docs docs) r ∷ h) begin since last failures missing all
carries_rows {h = h} {begin = begin} {since = since} {last = last} {failures = failures} {missing = missing} docs answered all r is all_is o =
    subst (λ (x : ResponseView). IsOpen (exchange_of (carry_docs docs) x ∷ h) begin since last failures missing all) (sym is)
    (subst (λ (xs : List RowErrorView). IsOpen (exchange_of (carry_docs docs) (row_errors_response answered) ∷ h) begin since last failures missing xs) (sym all_is)
    (carries docs (row_errors_response answered) (refusals_in answered) (λ id leaf about. or_left (are_about (refusals_in answered) id leaf) false about) o))

-- no row is answered
pub carries_nothing : {h : List Exchange} {begin since last : Text} {failures : ℕ} {missing : List DocView} {rows : List RowErrorView} (docs : List DocView) (r : ResponseView) → IsOpen h begin since last failures missing rows → IsOpen (exchange_of (carry_docs docs) r ∷ h) begin since last failures missing rows
carries_nothing {h = h} {begin = begin} {since = since} {last = last} {failures = failures} {missing = missing} {rows = rows} docs r o =
    subst (λ (xs : List RowErrorView). IsOpen (exchange_of (carry_docs docs) r ∷ h) begin since last failures missing xs) (append-nil rows)
    (carries docs r [] (λ id leaf about. absurd (false≢true about)) o)

about_too_large : (id : Text) (revs : List Text) (key leaf : Text) → are_about (too_large_rows id revs) key leaf ≡ true → bytes_eq id key ≡ true
about_too_large id [] key leaf about = absurd (false≢true about)
about_too_large id (r ∷ revs) key leaf about =
    elim (or_cases (bytes_eq id key && bytes_eq r leaf) (are_about (too_large_rows id revs) key leaf) about) [
      | inl here ↦ (and_parts (bytes_eq id key) (bytes_eq r leaf) here).0
      | inr later ↦ about_too_large id revs key leaf later
    ]

-- one document alone is too large
pub carries_too_large : {h : List Exchange} {begin since last : Text} {failures : ℕ} {missing : List DocView} {rows : List RowErrorView} (docs : List DocView) (d : DocView) (side : Side) (status : ℕ) (words : Text) (all : List RowErrorView) → is_too_large side status ≡ true → docs ≡ d ∷ [] → all ≡ rows ++ too_large_rows d.0 d.1 → IsOpen h begin since last failures missing rows → IsOpen (exchange_of (carry_docs docs) (rejected_response side status words) ∷ h) begin since last failures missing all
carries_too_large {h = h} {begin = begin} {since = since} {last = last} {failures = failures} {missing = missing} docs d side status words all large alone all_is o =
    subst (λ (xs : List RowErrorView). IsOpen (exchange_of (carry_docs docs) (rejected_response side status words) ∷ h) begin since last failures missing xs) (sym all_is)
    (carries docs (rejected_response side status words) (too_large_rows d.0 d.1)
    (λ id leaf about. or_left (is_too_large side status && is_alone docs id) false
    (and_from (is_too_large side status) (is_alone docs id) large (subst (λ (ds : List DocView). is_alone ds id ≡ true) (sym alone) (about_too_large d.0 d.1 id leaf about)))) o)

-- the page may be asked for again
pub reached_before : {h : List Exchange} {begin since last : Text} {failures : ℕ} {missing : List DocView} {rows : List RowErrorView} → IsOpen h begin since last failures missing rows → IsReachedFrom h begin since failures
reached_before {begin = begin} {since = since} {failures = failures} o =
    subst (λ (xs : List Exchange). IsReachedFrom xs begin since failures) (sym o.is) (IsReachedFrom-behind o.after (IsReachedFrom-more _ o.reached))

-- rows are about each open leaf
pub closes : {h : List Exchange} {begin since last : Text} {failures : ℕ} {missing : List DocView} {rows : List RowErrorView} → IsOpen h begin since last failures missing rows → cover rows missing ≡ true → IsReachedFrom h begin last (min (failures + leaf_count missing) (2 ^ 64 - 1))
closes {since = since} {failures = failures} {missing = missing} {rows = rows} o all = record {
  rejected = o.reached.rejected + leaf_count (not_found o.after o.page.rows);
  reached = paged o.before o.after [] since o.wait o.page o.reached.rejected o.is o.reached.reached
      (λ id leaf n. elim (cases_Bool (is_found o.after id leaf)) [
        | inl holds ↦ or_left (is_found o.after id leaf) (is_rejected o.after id leaf) holds
        | inr fails ↦
            let kept : names missing id leaf ≡ true = subst (λ (ds : List DocView). names ds id leaf ≡ true) (sym o.missing_is) (names-docs_where (λ k l. not (is_found o.after k l)) o.page.rows id leaf n (ap not fails)) in
            or_right (is_found o.after id leaf) (is_rejected o.after id leaf) (o.rejected id leaf (about_covered rows missing all id leaf kept))
      ]) o.last_is refl;
  counted = at_most o.reached.rejected failures (leaf_count (not_found o.after o.page.rows)) (leaf_count missing) (2 ^ 64 - 1) (ap leaf_count o.missing_is) o.reached.counted;
}

pub closes_as : {h : List Exchange} {begin since last : Text} {failures : ℕ} {missing : List DocView} {rows : List RowErrorView} → IsOpen h begin since last failures missing rows → cover rows missing ≡ true → (k : ℕ) → k ≡ leaf_count missing → IsReachedFrom h begin last (min (failures + k) (2 ^ 64 - 1))
closes_as {h = h} {begin = begin} {last = last} {failures = failures} o all k is =
    subst (λ (n : ℕ). IsReachedFrom h begin last (min (failures + n) (2 ^ 64 - 1))) (sym is) (closes o all)

-- no leaf is open
pub closes_none : {h : List Exchange} {begin since last : Text} {failures : ℕ} {missing : List DocView} {rows : List RowErrorView} → IsOpen h begin since last failures missing rows → missing ≡ [] → (k : ℕ) → k ≡ 0 → IsReachedFrom h begin last (min (failures + k) (2 ^ 64 - 1))
closes_none {rows = rows} o nil k is =
    closes_as o (subst (λ (ds : List DocView). cover rows ds ≡ true) (sym nil) refl) k (is ∙ ap leaf_count (sym nil))
