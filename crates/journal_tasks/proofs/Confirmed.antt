-- The task `confirm`.
use Rattle.proof_prelude.proofs.{Result, Ok, Err, OnOk, ◌≡◌, ℕ, ◌+◌, ◌<◌, Bool, true, false, ◌||◌, ◌&&◌, not, nat_eq, if◌then◌else◌, is_none, is_some, List, [], ◌∷◌, ◌++◌, length, length-append, filter, filter-append, fold, Option, None, Some, option_map, option_or, Vec, Global, inl, inr, refl, sym, ap, ap₂, subst, ◌∙◌, cases_Bool, append-nil, or-false, list_any, list_any-append, true≢false, false≢true, arith, lt-ltb, ltb-true}
use Rattle.line_reader.specs.{joined}
use Rattle.journal_core.specs.{IsAt, Place, TookAs, closed, held_more, is_sum, next, place_after, start}
use Rattle.journal_core.specs.declared.blocks.Blocks.{Blocks}
use Rattle.journal_core.specs.declared.blocks.Took.{Took}
use Rattle.journal_core.specs.declared.blocks.Took.TheVariants as tooks
use Rattle.journal_core.proofs.{next_damaged, place_more}
use Rattle.journal_tasks.specs.{ClosesBlock, EndsLine, HasConfirmed, IsConfirming, KeepsLine, confirm_text, confirms_more, docs_in, first_has_doc, found_from, found_in, found_on, is_at, is_doc_line, lacks_view, looked, noted, noted_all, open_lacks, report, report_at, report_text, stored_report, text_or_none, texts_in}
use Rattle.journal_tasks.proofs.LacksTables.{noted_push, open_block}
use Rattle.journal_tasks.proofs.Selected.{positive}
use Rattle.journal_tasks.proofs.Stated.{or_none, or_shift}
use Rattle.journal_tasks.specs.declared.confirm.Confirm.{Confirm}

abbrev Table : Type 0
Table = List (List ℕ × List ℕ)

docs_append : (front back : List (List ℕ)) → docs_in (front ++ back) ≡ docs_in front + docs_in back
docs_append front back = ap length (filter-append is_doc_line front back) ∙ length-append (filter is_doc_line front) (filter is_doc_line back)

-- ---- the report at a sequence

found_push : (at : List ℕ) (place : Place) (lines : List (List ℕ)) (line : List ℕ) → found_from at place (lines ++ line ∷ []) ≡ option_or (report_at at (fold next place lines) (next (fold next place lines) line)) (found_from at place lines)
found_push at place [] line = sym (or_none (report_at at place (next place line)))
found_push at place (l ∷ lines) line =
    let here = report_at at place (next place l) in
    ap (λ o. option_or o here) (found_push at (next place l) lines line) ∙ or_shift (report_at at (fold next (next place l) lines) (next (fold next (next place l) lines) line)) (found_from at (next place l) lines) here

not_more : (at : List ℕ) (p q : Place) → length q.confirmed ≡ length p.confirmed → report_at at p q ≡ None
not_more at p q e =
    let same : confirms_more p q ≡ false = elim (cases_Bool (confirms_more p q)) [ inl more ↦ let l : length p.confirmed < length q.confirmed = ltb-true (length p.confirmed) (length q.confirmed) more in absurd (omega arith) | inr below ↦ below ] in
    ap (λ b. if b && is_at q.seq at then Some (report q) else None) same

-- no block is confirmed
found_same : (at : Option (List ℕ)) (lines : List (List ℕ)) (line : List ℕ) → length (place_after (lines ++ line ∷ [])).confirmed ≡ length (place_after lines).confirmed → found_in at (lines ++ line ∷ []) ≡ found_in at lines
found_same None lines line e = refl
found_same (Some at) lines line e =
    let p = place_after lines in
    found_push at start lines line ∙ ap (λ o. option_or o (found_from at start lines)) (not_more at p (next p line) (ap (λ (z : Place). length z.confirmed) (sym (place_more lines line)) ∙ e))

or_stored : (b : Bool) (text : List ℕ) (o : Option (List ℕ)) → option_or (if b then Some text else None) o ≡ (if b then Some text else o)
or_stored true text o = refl
or_stored false text o = refl

-- a block is confirmed
found_more : (at : Option (List ℕ)) (lines : List (List ℕ)) (line : List ℕ) → length (place_after lines).confirmed < length (place_after (lines ++ line ∷ [])).confirmed
    → found_in at (lines ++ line ∷ []) ≡ found_on at (place_after (lines ++ line ∷ [])) (report (place_after (lines ++ line ∷ []))) (found_in at lines)
found_more None lines line h = refl
found_more (Some at) lines line h =
    let p = place_after lines in
    let q = next p line in
    let above : length p.confirmed < length q.confirmed = subst (λ (z : Place). length p.confirmed < length z.confirmed) (place_more lines line) h in
    found_push at start lines line ∙ ap (λ b. option_or (if b && is_at q.seq at then Some (report q) else None) (found_from at start lines)) (lt-ltb (length p.confirmed) (length q.confirmed) above)
    ∙ or_stored (is_at q.seq at) (report q) (found_from at start lines) ∙ ap (λ (z : Place). if is_at z.seq at then Some (report z) else found_from at start lines) (sym (place_more lines line))

-- ---- the first line, and the lines that end blocks

first_push : (lines : List (List ℕ)) (line : List ℕ) → first_has_doc (lines ++ line ∷ []) ≡ (if not (nat_eq (length lines) 0) then first_has_doc lines else is_doc_line line)
first_push [] line = refl
first_push (x ∷ lines) line = sym (ap (λ b. if not b then is_doc_line x else is_doc_line line) (positive (length (x ∷ lines)) (omega arith)))

sums_push : (lines : List (List ℕ)) (line : List ℕ) → list_any is_sum (lines ++ line ∷ []) ≡ (list_any is_sum lines || is_sum line)
sums_push lines line = list_any-append is_sum lines (line ∷ []) ∙ ap (λ b. list_any is_sum lines || b) (or-false (is_sum line))

begun_push : (lines : List (List ℕ)) (line : List ℕ) → true ≡ not (nat_eq (length (lines ++ line ∷ [])) 0)
begun_push lines line = sym (ap not (positive (length (lines ++ line ∷ [])) (omega (arith, length-append lines (line ∷ [])))))

-- ---- one line

not_held : (place : Place) (line : List ℕ) → place ≡ held_more place line → ⊥
not_held place line e = let n : length place.held ≡ length (place.held ++ line ∷ []) = ap (λ (p : Place). length p.held) e in omega (arith, n, length-append place.held (line ∷ []))

held_whole : (place : Place) (line : List ℕ) (b : Bool) → place.whole ≡ b → next place line ≡ held_more place line → place.whole ≡ true
held_whole place line true w e = w
held_whole place line false w e = absurd (not_held place line (sym (next_damaged place line w) ∙ e))

closed_whole : (place : Place) (line hash : List ℕ) (b : Bool) → place.whole ≡ b → next place line ≡ closed place line hash → place.whole ≡ true
closed_whole place line hash true w e = w
closed_whole place line hash false w e = absurd (true≢false (ap (λ (p : Place). p.whole) (sym e ∙ next_damaged place line w) ∙ w))

-- the task after the lines and a line more of the current block
abbrev pub Kept : List ℕ → Confirm → Confirm → Type 0
Kept line old kept = KeepsLine line (old.held + docs_in (line ∷ [])) (looked line old) kept

-- the parts of a step that do not depend on how the line was taken
looks : (at : Option (List ℕ)) (lines : List (List ℕ)) (text line : List ℕ) (old new : Confirm) → IsConfirming at lines text old → IsAt new.blocks (place_after (lines ++ line ∷ [])) → new.begun ≡ true → new.first_leaf ≡ (if old.begun then old.first_leaf else is_doc_line line) → new.sums ≡ (old.sums || is_sum line) → new.at ≡ old.at
    → new.leaves ≡ docs_in (place_after (lines ++ line ∷ [])).confirmed → ((place_after (lines ++ line ∷ [])).whole ≡ true → new.held ≡ docs_in (place_after (lines ++ line ∷ [])).held)
    → ((place_after (lines ++ line ∷ [])).whole ≡ true → (t : Table) → noted_all (texts_in new.pending.items) t ≡ noted_all (place_after (lines ++ line ∷ [])).held t) → lacks_view new.lacks.lines ≡ open_lacks (place_after (lines ++ line ∷ [])).confirmed
    → option_map (λ text. text.items) new.found ≡ found_in at (lines ++ line ∷ []) → IsConfirming at (lines ++ line ∷ []) (text ++ []) new
looks at lines text line old new k place begun first sums given leaves held pending missing found = record {
  place = place;
  leaves_are = leaves;
  held_is = held;
  pending_are = pending;
  lacks_are = missing;
  at_is = ap (option_map (λ at. at.items)) given ∙ k.at_is;
  found_is = found;
  begun_is = begun ∙ begun_push lines line;
  first_is = first ∙ ap₂ (λ b c. if b then c else is_doc_line line) k.begun_is k.first_is ∙ sym (first_push lines line);
  sums_are = sums ∙ ap (λ b. b || is_sum line) k.sums_are ∙ sym (sums_push lines line);
  text_is = append-nil text ∙ k.text_is;
}

pub confirm_held : (at : Option (List ℕ)) (lines : List (List ℕ)) (text line : List ℕ) (old kept new : Confirm) → IsConfirming at lines text old → Kept line old kept → new ≡ record kept { blocks = new.blocks } → IsAt new.blocks (next (place_after lines) line) → next (place_after lines) line ≡ held_more (place_after lines) line
    → IsConfirming at (lines ++ line ∷ []) (text ++ []) new
confirm_held at lines text line old kept new k h n place e =
    let p = place_after lines in
    let q = place_after (lines ++ line ∷ []) in
    let is : q ≡ held_more p line = place_more lines line ∙ e in
    let whole : p.whole ≡ true = held_whole p line p.whole refl e in
    looks at lines text line old new k (subst (IsAt new.blocks) (sym (place_more lines line)) place) (ap (λ (z : Confirm). z.begun) n ∙ ap (λ (z : Confirm). z.begun) h.same) (ap (λ (z : Confirm). z.first_leaf) n ∙ ap (λ (z : Confirm). z.first_leaf) h.same) (ap (λ (z : Confirm). z.sums) n ∙ ap (λ (z : Confirm). z.sums) h.same)
    (ap (λ (z : Confirm). z.at) n ∙ ap (λ (z : Confirm). z.at) h.same) (ap (λ (z : Confirm). z.leaves) n ∙ ap (λ (z : Confirm). z.leaves) h.same ∙ k.leaves_are ∙ ap (λ (z : Place). docs_in z.confirmed) (sym is))
    (λ w. ap (λ (z : Confirm). z.held) n ∙ ap (λ (z : Confirm). z.held) h.same ∙ ap (λ m. m + docs_in (line ∷ [])) (k.held_is whole) ∙ sym (docs_append p.held (line ∷ [])) ∙ ap (λ (z : Place). docs_in z.held) (sym is))
    (λ w t. ap (λ (z : Confirm). noted_all (texts_in z.pending.items) t) n ∙ h.pending t ∙ ap (λ (z : Table). noted z line) (k.pending_are whole t) ∙ sym (noted_push p.held line t) ∙ ap (λ (z : Place). noted_all z.held t) (sym is))
    (ap (λ (z : Confirm). lacks_view z.lacks.lines) n ∙ ap (λ (z : Confirm). lacks_view z.lacks.lines) h.same ∙ k.lacks_are ∙ ap (λ (z : Place). open_lacks z.confirmed) (sym is))
    (ap (λ (z : Confirm). option_map (λ (text : Vec ℕ Global). text.items) z.found) n ∙ ap (λ (z : Confirm). option_map (λ (text : Vec ℕ Global). text.items) z.found) h.same ∙ k.found_is ∙ sym (found_same at lines line (ap (λ (z : Place). length z.confirmed) is)))

pub confirm_damaged : (at : Option (List ℕ)) (lines : List (List ℕ)) (text line : List ℕ) (old kept new : Confirm) → IsConfirming at lines text old → Kept line old kept → new ≡ record kept { blocks = new.blocks } → IsAt new.blocks (next (place_after lines) line)
    → ((next (place_after lines) line).confirmed ≡ (place_after lines).confirmed) × ((next (place_after lines) line).held ≡ (place_after lines).held) × ((next (place_after lines) line).whole ≡ false) → IsConfirming at (lines ++ line ∷ []) (text ++ []) new
confirm_damaged at lines text line old kept new k h n place (same, held, damaged) =
    let p = place_after lines in
    let q = place_after (lines ++ line ∷ []) in
    let more : q ≡ next p line = place_more lines line in
    let is : q.confirmed ≡ p.confirmed = ap (λ (z : Place). z.confirmed) more ∙ same in
    let broken : q.whole ≡ false = ap (λ (z : Place). z.whole) more ∙ damaged in
    looks at lines text line old new k (subst (IsAt new.blocks) (sym more) place) (ap (λ (z : Confirm). z.begun) n ∙ ap (λ (z : Confirm). z.begun) h.same) (ap (λ (z : Confirm). z.first_leaf) n ∙ ap (λ (z : Confirm). z.first_leaf) h.same) (ap (λ (z : Confirm). z.sums) n ∙ ap (λ (z : Confirm). z.sums) h.same)
    (ap (λ (z : Confirm). z.at) n ∙ ap (λ (z : Confirm). z.at) h.same) (ap (λ (z : Confirm). z.leaves) n ∙ ap (λ (z : Confirm). z.leaves) h.same ∙ k.leaves_are ∙ ap docs_in (sym is)) (λ w. absurd (true≢false (sym w ∙ broken))) (λ w t. absurd (true≢false (sym w ∙ broken)))
    (ap (λ (z : Confirm). lacks_view z.lacks.lines) n ∙ ap (λ (z : Confirm). lacks_view z.lacks.lines) h.same ∙ k.lacks_are ∙ ap open_lacks (sym is))
    (ap (λ (z : Confirm). option_map (λ (text : Vec ℕ Global). text.items) z.found) n ∙ ap (λ (z : Confirm). option_map (λ (text : Vec ℕ Global). text.items) z.found) h.same ∙ k.found_is ∙ sym (found_same at lines line (ap length is)))

pub confirm_closed : (at : Option (List ℕ)) (lines : List (List ℕ)) (text line hash : List ℕ) (old kept mid new : Confirm) → IsConfirming at lines text old → Kept line old kept → mid ≡ record kept { blocks = mid.blocks } → IsAt mid.blocks (next (place_after lines) line) → next (place_after lines) line ≡ closed (place_after lines) line hash → ClosesBlock mid new
    → IsConfirming at (lines ++ line ∷ []) (text ++ []) new
confirm_closed at lines text line hash old kept mid new k h m place e c =
    let p = place_after lines in
    let q = place_after (lines ++ line ∷ []) in
    let is : q ≡ closed p line hash = place_more lines line ∙ e in
    let whole : p.whole ≡ true = closed_whole p line hash p.whole refl e in
    let body : q.confirmed ≡ p.confirmed ++ (p.held ++ line ∷ []) = ap (λ (z : Place). z.confirmed) is in
    let docs : mid.held ≡ docs_in (p.held ++ line ∷ []) = ap (λ (z : Confirm). z.held) m ∙ ap (λ (z : Confirm). z.held) h.same ∙ ap (λ n. n + docs_in (line ∷ [])) (k.held_is whole) ∙ sym (docs_append p.held (line ∷ [])) in
    let before : mid.leaves ≡ docs_in p.confirmed = ap (λ (z : Confirm). z.leaves) m ∙ ap (λ (z : Confirm). z.leaves) h.same ∙ k.leaves_are in
    let leaves : new.leaves ≡ docs_in q.confirmed = c.leaves ∙ ap₂ (λ a b. a + b) before docs ∙ sym (docs_append p.confirmed (p.held ++ line ∷ [])) ∙ ap docs_in (sym body) in
    let pending : (t : Table) → noted_all (texts_in mid.pending.items) t ≡ noted_all (p.held ++ line ∷ []) t = λ t.
    ap (λ (z : Confirm). noted_all (texts_in z.pending.items) t) m ∙ h.pending t ∙ ap (λ (z : Table). noted z line) (k.pending_are whole t) ∙ sym (noted_push p.held line t) in
    let table : lacks_view mid.lacks.lines ≡ open_lacks p.confirmed = ap (λ (z : Confirm). lacks_view z.lacks.lines) m ∙ ap (λ (z : Confirm). lacks_view z.lacks.lines) h.same ∙ k.lacks_are in
    let missing : lacks_view new.lacks.lines ≡ open_lacks q.confirmed = c.lacks ∙ pending (lacks_view mid.lacks.lines) ∙ ap (noted_all (p.held ++ line ∷ [])) table ∙ sym (open_block p.confirmed (p.held ++ line ∷ [])) ∙ ap open_lacks (sym body) in
    let at_q : IsAt mid.blocks q = subst (IsAt mid.blocks) (sym (place_more lines line)) place in
    let given : option_map (λ (at : Vec ℕ Global). at.items) mid.at ≡ at = ap (λ (z : Confirm). option_map (λ (at : Vec ℕ Global). at.items) z.at) m ∙ ap (λ (z : Confirm). option_map (λ (at : Vec ℕ Global). at.items) z.at) h.same ∙ k.at_is in
    let stored : option_map (λ (text : Vec ℕ Global). text.items) mid.found ≡ found_in at lines = ap (λ (z : Confirm). option_map (λ (text : Vec ℕ Global). text.items) z.found) m ∙ ap (λ (z : Confirm). option_map (λ (text : Vec ℕ Global). text.items) z.found) h.same ∙ k.found_is in
    let printed : stored_report new q ≡ report q = ap₂ (λ (x : ℕ) (y : Table). report_text (length (joined q.confirmed)) (length q.confirmed) x q.chain q.seq y) leaves missing in
    looks at lines text line old new k (subst (λ (b : Blocks). IsAt b q) (sym c.blocks) at_q) (c.begun ∙ ap (λ (z : Confirm). z.begun) m ∙ ap (λ (z : Confirm). z.begun) h.same)
    (c.first ∙ ap (λ (z : Confirm). z.first_leaf) m ∙ ap (λ (z : Confirm). z.first_leaf) h.same) (c.sums ∙ ap (λ (z : Confirm). z.sums) m ∙ ap (λ (z : Confirm). z.sums) h.same)
    (c.at_is ∙ ap (λ (z : Confirm). z.at) m ∙ ap (λ (z : Confirm). z.at) h.same) leaves (λ w. c.held ∙ ap (λ (z : Place). docs_in z.held) (sym is))
    (λ w t. ap (λ (z : List (Vec ℕ Global)). noted_all (texts_in z) t) c.pending ∙ ap (λ (z : Place). noted_all z.held t) (sym is)) missing
    (c.found q at_q ∙ ap₂ (λ (x y : Option (List ℕ)). found_on x q (stored_report new q) y) given stored ∙ ap (λ (z : List ℕ). found_on at q z (found_in at lines)) printed
    ∙ sym (found_more at lines line (let n : length q.confirmed ≡ length (p.confirmed ++ (p.held ++ line ∷ [])) = ap length body in omega (arith, n, length-append p.confirmed (p.held ++ line ∷ []), length-append p.held (line ∷ [])))))

-- ---- the end

none_of : (o : Option (Vec ℕ Global)) (p : Option (List ℕ)) → option_map (λ (text : Vec ℕ Global). text.items) o ≡ p → is_none o ≡ is_none p
none_of None p e = ap is_none e
none_of (Some text) p e = ap is_none e

some_of : (o : Option (Vec ℕ Global)) (p : Option (List ℕ)) → option_map (λ (text : Vec ℕ Global). text.items) o ≡ p → is_some o ≡ is_some p
some_of None p e = ap is_some e
some_of (Some text) p e = ap is_some e

pub confirm_end : (at : Option (List ℕ)) (lines : List (List ℕ)) (text rest added : List ℕ) (old new : Confirm) → IsConfirming at lines text old → new ≡ record (looked rest old) { cut = not (nat_eq (length rest) 0) } → added ≡ confirm_text at lines → HasConfirmed at lines rest (text ++ added) new
confirm_end at lines text rest added old new k n a =
    let first : new.first_leaf ≡ first_has_doc (lines ++ rest ∷ []) = ap (λ (z : Confirm). z.first_leaf) n ∙ ap₂ (λ b c. if b then c else is_doc_line rest) k.begun_is k.first_is ∙ sym (first_push lines rest) in
    let sums : new.sums ≡ list_any is_sum (lines ++ rest ∷ []) = ap (λ (z : Confirm). z.sums) n ∙ ap (λ b. b || is_sum rest) k.sums_are ∙ sym (sums_push lines rest) in
    record {
      text_is = ap (λ z. z ++ added) k.text_is ∙ a;
      place = subst (λ (b : Blocks). IsAt b (place_after lines)) (sym (ap (λ (z : Confirm). z.blocks) n)) k.place;
      cut_is = ap (λ (z : Confirm). z.cut) n;
      without_sums = ap₂ (λ b c. b && not c) first sums;
      not_found = ap₂ (λ b c. b && c) (ap (λ (z : Confirm). is_some z.at) n ∙ some_of old.at at k.at_is) (ap (λ (z : Confirm). is_none z.found) n ∙ none_of old.found (found_in at lines) k.found_is);
    }

-- the report about all confirmed blocks
pub report_all : (at : Option (List ℕ)) (lines : List (List ℕ)) (text : List ℕ) (task : Confirm) → IsConfirming at lines text task → at ≡ None → stored_report task (place_after lines) ≡ confirm_text at lines
report_all at lines text task k e =
    let p = place_after lines in
    ap₂ (λ (x : ℕ) (y : Table). report_text (length (joined p.confirmed)) (length p.confirmed) x p.chain p.seq y) k.leaves_are k.lacks_are ∙ ap (λ o. confirm_text o lines) (sym e)

-- the report that was found
pub report_found : (at : Option (List ℕ)) (lines : List (List ℕ)) (o : Option (Vec ℕ Global)) → is_some at ≡ true → option_map (λ (text : Vec ℕ Global). text.items) o ≡ found_in at lines → text_or_none (option_map (λ (text : Vec ℕ Global). text.items) o) ≡ confirm_text at lines
report_found None lines o h e = absurd (false≢true h)
report_found (Some at) lines o h e = ap text_or_none e

-- ---- the parts of a step

pub kept_is : (line : List ℕ) (old seen kept : Confirm) (docs leaf : ℕ) → docs ≡ seen.held + leaf → leaf ≡ docs_in (line ∷ []) → seen ≡ looked line old → KeepsLine line docs seen kept → Kept line old kept
kept_is line old seen kept docs leaf d l e k =
    let m : docs ≡ old.held + docs_in (line ∷ []) = d ∙ ap₂ (λ a b. a + b) (ap (λ (z : Confirm). z.held) e) l in
    subst (λ n. KeepsLine line n (looked line old) kept) m (subst (λ (z : Confirm). KeepsLine line docs z kept) e k)

pub kept_at : (line : List ℕ) (old kept : Confirm) (place : Place) → Kept line old kept → IsAt old.blocks place → IsAt kept.blocks place
kept_at line old kept place k at = subst (λ (b : Blocks). IsAt b place) (sym (ap (λ (z : Confirm). z.blocks) k.same)) at

pub with_text : (at : Option (List ℕ)) (lines : List (List ℕ)) (text added : List ℕ) (task : Confirm) → added ≡ [] → IsConfirming at lines (text ++ []) task → IsConfirming at lines (text ++ added) task
with_text at lines text added task e k = subst (λ z. IsConfirming at lines (text ++ z) task) (sym e) k

pub confirm_line : (at : Option (List ℕ)) (lines : List (List ℕ)) (text line : List ℕ) (old kept mid new : Confirm) (took : Took) → IsConfirming at lines text old → Kept line old kept → mid ≡ record kept { blocks = mid.blocks } → IsAt mid.blocks (next (place_after lines) line) → TookAs (place_after lines) (next (place_after lines) line) line took → EndsLine took mid new
    → IsConfirming at (lines ++ line ∷ []) (text ++ []) new
confirm_line at lines text line old kept mid new tooks.Held k h m place t e = subst (IsConfirming at (lines ++ line ∷ []) (text ++ [])) (sym e) (confirm_held at lines text line old kept mid k h m place t)
confirm_line at lines text line old kept mid new (tooks.Closed body) k h m place t e = confirm_closed at lines text line t.0 old kept mid new k h m place t.1 e
confirm_line at lines text line old kept mid new tooks.Damaged k h m place t e = subst (IsConfirming at (lines ++ line ∷ []) (text ++ [])) (sym e) (confirm_damaged at lines text line old kept mid k h m place t)

pub on_two : {T E A B P : Type 0} (r : Result T E) → (A → B → P) → OnOk r A → OnOk r B → OnOk r P
on_two (Ok x) f a b = f a b
on_two (Err e) f a b = tt
