-- The effect of a write on the documents.
use Rattle.proof_prelude.proofs.{◌≡◌, ℕ, ◌<◌, ◌≤◌, List, [], ◌∷◌, ◌++◌, Option, Some, None, true, cond, subst, sym, ap, ◌∙◌, refl, inl, inr, not, both_ways, cases_Bool, false≢true, false_from_ne_true, bytes_eq, same_Some, none-some}
use Rattle.couch_base.specs.{Among, Id, DocumentValue, IsDocumentTree, without, most, at_seq, feed_without, seq_of, tree_at, document, documents, IsTable, Sets, Kept, id_is, id_same, Among-push}
use Rattle.couch_base.proofs.Rising.{Rising, all_below, rising_append, rising_filter, among_filter}
use Rattle.couch_base.proofs.Index.{at_append, at_new, at_without}

-- ---- documents

-- an id other than the one that is set
pub same_at : (g h : Id → Option Kept) (id : Id) (k : Kept) → Sets g h id k → (q : Id) → (q ≡ id → ⊥) → h q ≡ g q
same_at g h id k sets q apart = sets q ∙ ap (λ b. cond b (Some k) (g q)) (false_from_ne_true (bytes_eq id q) (λ e. apart (sym (id_is id q e))))

pub here_at : (g h : Id → Option Kept) (id : Id) (k : Kept) → Sets g h id k → h id ≡ Some k
here_at g h id k sets = sets id ∙ ap (λ b. cond b (Some k) (g id)) (id_same id)

pub without_documents : (g h : Id → Option Kept) (id : Id) (k : Kept) → Sets g h id k → (index : List (ℕ × Id)) → documents h (feed_without id index) ≡ without (documents g index) id
without_documents g h id k sets [] = refl
without_documents g h id k sets (e ∷ es) =
    elim (cases_Bool (bytes_eq e.1 id)) [
      | inl hit ↦ rw hit (without_documents g h id k sets es)
      | inr miss ↦
          rw miss
          (ap (λ (o : Option Kept). let x : DocumentValue = record { id = e.1; seq = e.0; tree = tree_at o } in x ∷ documents h (feed_without id es))
          (same_at g h id k sets e.1 (λ j. both_ways (bytes_eq e.1 id) miss (ap (bytes_eq e.1) (sym j) ∙ id_same e.1)))
          ∙ ap (λ l. document g e ∷ l) (without_documents g h id k sets es))
    ]

pub documents_append : (h : Id → Option Kept) (index : List (ℕ × Id)) (x : ℕ × Id) → documents h (index ++ x ∷ []) ≡ documents h index ++ document h x ∷ []
documents_append h [] x = refl
documents_append h (e ∷ es) x = ap (λ l. document h e ∷ l) (documents_append h es x)

-- ---- ids and their sequences

some_of : (o : Option Kept) (s : ℕ) → seq_of o ≡ Some s → (k : Kept) × (o ≡ Some k) × (k.seq ≡ s)
some_of None s h = absurd (none-some s h)
some_of (Some k) s h = (k, refl, same_Some k.seq s h)

pub kept_at : (g : Id → Option Kept) (index : List (ℕ × Id)) (hi : ℕ) → IsTable g index hi → (e : ℕ × Id) → Among e index → (k : Kept) × (g e.1 ≡ Some k) × (k.seq ≡ e.0)
kept_at g index hi t e m = some_of (g e.1) e.0 (t.held e m)

pub nowhere : (g : Id → Option Kept) (index : List (ℕ × Id)) (hi : ℕ) → IsTable g index hi → (id : Id) → g id ≡ None → (e : ℕ × Id) → Among e index → e.1 ≡ id → ⊥
nowhere g index hi t id gone e m same = none-some e.0 (sym (ap seq_of (ap g same ∙ gone)) ∙ t.held e m)

-- if the feed does not have the document, removing it changes nothing
pub without_none : (id : Id) (index : List (ℕ × Id)) → ((e : ℕ × Id) → Among e index → e.1 ≡ id → ⊥) → feed_without id index ≡ index
without_none id [] apart = refl
without_none id (e ∷ es) apart =
    rw (false_from_ne_true (bytes_eq e.1 id) (λ same. apart e (inl refl) (id_is e.1 id same))) (ap (λ l. e ∷ l) (without_none id es (λ x m. apart x (inr m))))

held_new : (h : Id → Option Kept) (id : Id) (k : Kept) (s : ℕ) → h id ≡ Some k → k.seq ≡ s → (e : ℕ × Id) → e ≡ (s, id) → seq_of (h e.1) ≡ Some e.0
held_new h id k s here at e same = ap (λ (p : ℕ × Id). seq_of (h p.1)) same ∙ ap seq_of here ∙ ap (λ n. Some n) at ∙ ap (λ (p : ℕ × Id). Some p.0) (sym same)

-- trees stay lawful
set_trees : (g h : Id → Option Kept) (index : List (ℕ × Id)) (hi : ℕ) → IsTable g index hi → (id : Id) (k : Kept) → Sets g h id k → IsDocumentTree k.tree → (q : Id) (x : Kept) → h q ≡ Some x → IsDocumentTree x.tree
set_trees g h index hi t id k sets lawful q x is =
    elim (cases_Bool (bytes_eq id q)) [
      | inl hit ↦ subst (λ (y : Kept). IsDocumentTree y.tree) (same_Some k x (sym (here_at g h id k sets) ∙ ap h (id_is id q hit) ∙ is)) lawful
      | inr apart ↦ t.trees q x (sym (sets q ∙ ap (λ b. cond b (Some k) (g q)) apart) ∙ is)
    ]

-- ---- a write, which moves the document to the end of the feed

-- a document that is not removed is another one
kept_apart : (a b : Id) → not (bytes_eq a b) ≡ true → a ≡ b → ⊥
kept_apart a b kept same = false≢true (sym (ap not (ap (bytes_eq a) (sym same) ∙ id_same a)) ∙ kept)

pub moved_documents : (g h : Id → Option Kept) (index : List (ℕ × Id)) (id : Id) (k : Kept) → Sets g h id k → (s : ℕ)
    → documents h (feed_without id index ++ (s, id) ∷ []) ≡ without (documents g index) id ++ record { id = id; seq = s; tree = k.tree } ∷ []
moved_documents g h index id k sets s =
    documents_append h (feed_without id index) (s, id)
    ∙ ap (λ l. l ++ document h (s, id) ∷ []) (without_documents g h id k sets index)
    ∙ ap (λ (o : Option Kept). let x : DocumentValue = record { id = id; seq = s; tree = tree_at o } in without (documents g index) id ++ x ∷ []) (here_at g h id k sets)

pub moved_kept : (g h : Id → Option Kept) (index : List (ℕ × Id)) (hi : ℕ) → IsTable g index hi → (id : Id) (k : Kept) → Sets g h id k → IsDocumentTree k.tree → hi < k.seq → k.seq ≤ most
    → IsTable h (feed_without id index ++ (k.seq, id) ∷ []) k.seq
moved_kept g h index hi t id k sets lawful above within =
    let others = feed_without id index in
    let rising : Rising 0 others hi = rising_filter _ 0 index hi t.rising in
    record {
      rising = rising_append 0 others hi k.seq id rising above;
      within = within;
      held = λ e m. elim (Among-push e others (k.seq, id) m) [
        | inl n ↦
            let there = among_filter _ index e n in
            ap seq_of (same_at g h id k sets e.1 (λ j. kept_apart e.1 id there.1 j)) ∙ t.held e there.0
        | inr same ↦ held_new h id k k.seq (here_at g h id k sets) refl e same
      ];
      indexed = λ q x is. elim (cases_Bool (bytes_eq id q)) [
        | inl hit ↦
            let same = id_is id q hit in
            let here : k ≡ x = same_Some k x (sym (here_at g h id k sets) ∙ ap h same ∙ is) in
            ap (λ (y : Kept). at_seq y.seq (others ++ (k.seq, id) ∷ [])) (sym here)
            ∙ at_new k.seq others id (all_below others hi k.seq rising above)
            ∙ ap (λ i. Some i) same
        | inr apart ↦
            at_append x.seq others (k.seq, id) q
            (at_without x.seq id index q (λ j. both_ways (bytes_eq id q) apart (ap (bytes_eq id) j ∙ id_same id))
            (t.indexed q x (sym (sets q ∙ ap (λ b. cond b (Some k) (g q)) apart) ∙ is)))
      ];
      trees = set_trees g h index hi t id k sets lawful;
    }
