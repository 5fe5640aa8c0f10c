-- The items of a `_bulk_get` request.
use Rattle.proof_prelude.proofs.{◌≡◌, ℕ, Bool, true, false, if◌then◌else◌, codes, List, [], ◌∷◌, ◌++◌, refl, sym, ap, ◌∙◌, append_assoc, append-nil, ◌+◌}
use Rattle.journal_lines.specs.Entries.{EntryView, entry_in}
use Rattle.journal_tasks.specs.{HasAsked, IsAsking, asked_items, asked_leaf, counted_as, failed_end, has_begun, is_wrong, is_wrong_entry, leaves_in, listed}
use Rattle.journal_tasks.proofs.Counts.{count_end, count_line}
use Rattle.journal_tasks.specs.declared.ask.Ask.{Ask}
use Rattle.journal_tasks.specs.declared.count.Count.{Count}

pub asked_items-append : (begun : Bool) (xs ys : List (List ℕ × List ℕ)) → asked_items begun (xs ++ ys) ≡ asked_items begun xs ++ asked_items (has_begun begun xs) ys
asked_items-append begun [] ys = refl
asked_items-append begun (x ∷ xs) ys =
    let front = (if begun then codes "," else codes "{\"docs\":[") ++ asked_leaf x in
    ap (λ z. front ++ z) (asked_items-append true xs ys) ∙ ap (λ b. front ++ (asked_items true xs ++ asked_items b ys)) (begun_true xs) ∙ sym (append_assoc front (asked_items true xs) (asked_items true ys)) where
      begun_true : (zs : List (List ℕ × List ℕ)) → has_begun true zs ≡ true
      begun_true [] = refl
      begun_true (z ∷ zs) = refl

pub has_begun-append : (begun : Bool) (xs ys : List (List ℕ × List ℕ)) → has_begun begun (xs ++ ys) ≡ has_begun (has_begun begun xs) ys
has_begun-append begun [] ys = refl
has_begun-append begun (x ∷ xs) [] = refl
has_begun-append begun (x ∷ xs) (y ∷ ys) = refl

-- the leaves of one line more
pub leaves_in-push : (lines : List (List ℕ)) (line : List ℕ) → leaves_in (lines ++ line ∷ []) ≡ leaves_in lines ++ listed (entry_in line)
leaves_in-push [] line = append-nil (listed (entry_in line))
leaves_in-push (l ∷ lines) line = ap (λ z. listed (entry_in l) ++ z) (leaves_in-push lines line) ∙ sym (append_assoc (listed (entry_in l)) (leaves_in lines) (listed (entry_in line)))

pub ask_line : (lines : List (List ℕ)) (text line added : List ℕ) (old new : Ask) (after : Count) (e : EntryView) → e ≡ entry_in line → IsAsking lines text old → after ≡ record { lines = old.count.lines + 1; wrong = old.count.wrong } → added ≡ asked_items old.begun (listed e) → new.begun ≡ has_begun old.begun (listed e)
    → new.count ≡ counted_as (is_wrong_entry e) after → IsAsking (lines ++ line ∷ []) (text ++ added) new
ask_line lines text line added old new after e is k a t b n =
    let more : listed e ≡ listed (entry_in line) = ap listed is in
    let items : asked_items old.begun (listed e) ≡ asked_items (has_begun false (leaves_in lines)) (listed (entry_in line)) = ap (λ z. asked_items z (listed e)) k.begun ∙ ap (λ z. asked_items (has_begun false (leaves_in lines)) z) more in
    record {
      counting = count_line is_wrong lines line old.count after new.count (is_wrong_entry e) k.counting a (ap is_wrong_entry is) n;
      begun = b ∙ ap (λ z. has_begun z (listed e)) k.begun ∙ ap (λ z. has_begun (has_begun false (leaves_in lines)) z) more ∙ sym (has_begun-append false (leaves_in lines) (listed (entry_in line))) ∙ ap (has_begun false) (sym (leaves_in-push lines line));
      text_is = ap (λ z. text ++ z) (t ∙ items) ∙ ap (λ z. z ++ asked_items (has_begun false (leaves_in lines)) (listed (entry_in line))) k.text_is ∙ sym (asked_items-append false (leaves_in lines) (listed (entry_in line)))
          ∙ ap (asked_items false) (sym (leaves_in-push lines line));
    }

-- ---- the end

pub ask_end : (lines : List (List ℕ)) (text rest added : List ℕ) (old new : Ask) → IsAsking lines text old → added ≡ (if old.begun then codes "]}\n" else []) → new.count.wrong ≡ failed_end old.count.wrong old.count.lines rest → HasAsked lines rest (text ++ added) new
ask_end lines text rest added old new k a w = record {
  text_is = ap (λ z. z ++ added) k.text_is ∙ ap (λ z. asked_items false (leaves_in lines) ++ z) (a ∙ ap (λ b. if b then codes "]}\n" else []) k.begun);
  wrong = count_end is_wrong lines rest old.count new.count.wrong k.counting w;
}
