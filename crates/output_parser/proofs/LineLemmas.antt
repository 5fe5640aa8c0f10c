-- The parts of a line are unique.
use Rattle.proof_prelude.proofs.{◌≡◌, ℕ, Bool, true, false, if◌then◌else◌, refl, List, [], ◌∷◌, ◌++◌, sym, ap, ◌∙◌, append_assoc, codes, Option, Some, None, IfNone, IfSome, arith, subst, is_none, false≢true, append_cancel_left, append_cancel_right}
use Rattle.output_parser.specs.{lacks, IsDocLine, LeafParts, ListedParts, NoFinding, NoRow, state_text, Finding, Table, is_undrawn, other_of}
use Rattle.output_parser.specs.Lines.{NoMore, TellsMore}
use Rattle.output_parser.specs.declared.told.Told.TheVariants as told
use Rattle.output_parser.specs.declared.told.Finding.TheVariants as findings
use Rattle.output_parser.specs.declared.told.Table.TheVariants as tables
use Rattle.output_parser.proofs.WordLemmas.{first_unique, last_unique}

pub if_none : {T : Type 0} (o : Option T) (P : Type 0) → P → IfNone o P
if_none None P h = h
if_none (Some x) P h = tt

pub none_map : {T : Type 0} (o : Option T) (P Q : Type 0) → (P → Q) → IfNone o P → IfNone o Q
none_map None P Q f h = f h
none_map (Some x) P Q f h = tt

-- after a prefix
pub after : (a line x y : List ℕ) → line ≡ a ++ x → line ≡ a ++ y → x ≡ y
after a line x y p q = append_cancel_left a x y (sym p ∙ q)

-- before a name and the last word
pub named_unique : (text name h w k v : List ℕ) → lacks 32 w ≡ true → lacks 32 v ≡ true → text ≡ h ++ (name ++ 32 ∷ w) → text ≡ k ++ (name ++ 32 ∷ v) → (h ≡ k) × (w ≡ v)
named_unique text name h w k v a b p q =
    let u = last_unique 32 (h ++ name) (k ++ name) w v a b
    (append_assoc h name (32 ∷ w) ∙ (sym p ∙ (q ∙ sym (append_assoc k name (32 ∷ v))))) in
    (append_cancel_right h k name u.0, u.1)

pub leaf_none : (line rest own tail : List ℕ) → line ≡ codes "leaf " ++ rest → rest ≡ own ++ 32 ∷ tail → lacks 32 own ≡ true → ((l : List ℕ) → tail ≡ codes "live " ++ l → ⊥) → ((l : List ℕ) → tail ≡ codes "deleted " ++ l → ⊥) → (o : List ℕ) (live : Bool) (list : List ℕ) → LeafParts line o live list → ⊥
leaf_none line rest own tail a b h live deleted o true list p =
    live list (first_unique 32 own o tail (codes "live " ++ list) h p.word (sym b ∙ after (codes "leaf ") line rest _ a p.form)).1
leaf_none line rest own tail a b h live deleted o false list p =
    deleted list (first_unique 32 own o tail (codes "deleted " ++ list) h p.word (sym b ∙ after (codes "leaf ") line rest _ a p.form)).1

abbrev head_or : ℕ → List ℕ → ℕ
head_or d [] = d
head_or d (x ∷ xs) = x

pub first_apart : (a b : ℕ) (x y : List ℕ) → (a ≡ b → ⊥) → a ∷ x ≡ b ∷ y → ⊥
first_apart a b x y apart e = apart (ap (head_or 0) e)

state_list : (a b : Bool) (x y : List ℕ) → state_text a ++ x ≡ state_text b ++ y → x ≡ y
state_list true true x y e = append_cancel_left (codes "live ") x y e
state_list false false x y e = append_cancel_left (codes "deleted ") x y e
state_list true false x y e = absurd (first_apart 108 100 _ _ (λ h. omega (arith, h)) e)
state_list false true x y e = absurd (first_apart 100 108 _ _ (λ h. omega (arith, h)) e)

-- the list and the leaf's text of a line are unique
pub leaf_list : (line own o : List ℕ) (live l : Bool) (list x : List ℕ) → LeafParts line own live list → LeafParts line o l x → (own ≡ o) × (list ≡ x)
leaf_list line own o live l list x p q =
    let u = first_unique 32 own o (state_text live ++ list) (state_text l ++ x) p.word q.word (after (codes "leaf ") line _ _ p.form q.form) in
    (u.0, state_list live l list x u.1)

pub all_findings : (line : List ℕ) → NoFinding line findings.Missing → NoFinding line findings.Contradicts → NoFinding line findings.Differs → (finding : Finding) → NoFinding line finding
all_findings line a b c findings.Missing = a
all_findings line a b c findings.Contradicts = b
all_findings line a b c findings.Differs = c

pub all_rows : (line : List ℕ) → NoRow line tables.Compared → NoRow line tables.Info → NoRow line tables.Session → (table : Table) → NoRow line table
all_rows line a b c tables.Compared = a
all_rows line a b c tables.Info = b
all_rows line a b c tables.Session = c

-- a line without a format of drawn lines
told_by : (line : List ℕ) (q : Bool) → is_undrawn line ≡ q → NoMore line → TellsMore line (if q then told.Other else told.Unknown)
told_by line true e h = (h, e)
told_by line false e h = (h, e)

pub other_told : (line : List ℕ) → NoMore line → TellsMore line (other_of line)
other_told line h = told_by line (is_undrawn line) refl h

pub listed_list : (word line a b x y : List ℕ) → ListedParts word line a x → ListedParts word line b y → x ≡ y
listed_list word line a b x y p q = (last_unique 32 a b x y p.lacks_blank q.lacks_blank (after word line _ _ p.form q.form)).1

pub none_at : {T : Type 0} (o : Option T) (P : Type 0) → o ≡ None → IfNone o P → P
none_at None P e h = h
none_at (Some x) P e h = absurd (false≢true (ap is_none e))

pub some_at : {T : Type 0} (o : Option T) (Q : T → Type 0) (x : T) → o ≡ Some x → IfSome o Q → Q x
some_at o Q x e h = subst (λ z. IfSome z Q) e h

pub listed_unique : (word line rest id list : List ℕ) → line ≡ word ++ rest → rest ≡ id ++ 32 ∷ list → lacks 32 list ≡ true → (i l : List ℕ) → ListedParts word line i l → (id ≡ i) × (list ≡ l)
listed_unique word line rest id list a b h i l p = last_unique 32 id i list l h p.lacks_blank (sym b ∙ after word line rest _ a p.form)

-- the text before ` revs N`, before ` leaves N` and before ` winner REV`
module _ (line id : List ℕ) (count : ℕ) (d : IsDocLine line id count) where
  abbrev one : List ℕ
  one = id ++ (codes " winner" ++ 32 ∷ d.winner)

  abbrev two : List ℕ
  two = one ++ (codes " leaves" ++ 32 ∷ d.leaves)

  pub doc_rest : (rest : List ℕ) → line ≡ codes "doc " ++ rest → rest ≡ two ++ (codes " revs" ++ 32 ∷ d.revs)
  doc_rest rest a = after (codes "doc ") line rest _ a d.form

  pub doc_two : (rest head word : List ℕ) → line ≡ codes "doc " ++ rest → rest ≡ head ++ (codes " revs" ++ 32 ∷ word) → lacks 32 word ≡ true → head ≡ two
  doc_two rest head word a b h = (named_unique rest (codes " revs") head word two d.revs h d.revs_word b (doc_rest rest a)).0

  pub doc_one : (head before word : List ℕ) → head ≡ two → head ≡ before ++ (codes " leaves" ++ 32 ∷ word) → lacks 32 word ≡ true → (before ≡ one) × (word ≡ d.leaves)
  doc_one head before word a b h = named_unique head (codes " leaves") before word one d.leaves h d.leaves_word b a

  pub doc_id : (head before word : List ℕ) → head ≡ one → head ≡ before ++ (codes " winner" ++ 32 ∷ word) → lacks 32 word ≡ true → before ≡ id
  doc_id head before word a b h = (named_unique head (codes " winner") before word id d.winner h d.winner_word b a).0
