-- Stored tables by the bytes of their names, their filters, and the index of the UUIDs.
use Rattle.proof_prelude.proofs.{◌≡◌, ◌≢◌, ◌⊎◌, inl, inr, ℕ, true, false, cond, List, [], ◌∷◌, map, refl, sym, ap, ◌∙◌, arith, common_steps, Option, Some, string_bytes, is_some, option_map, bytes_eq, bytes_eq-Decides, eq_by_cmp_equiv, FinMap, get, contains_key, get-from_entries, get-insert, same_map, slice_cmp-IsAntisymmetric, nat_cmp-IsAntisymmetric, IsAntisymmetric, nat_list_cmp_total, is_eq-slice_cmp, same_Some, both_ways, cases_Bool, false_from_ne_true, String, UpdatesBy, hash_map_updates_text, string_eq, Bool, None, nat_eq, subst, option_map_or, starts_with, list_any, eqb-true, eq-eqb, none-some, true≢false}
use Rattle.std.specs.declared.alloc.Global.{Global}
use Rattle.std.specs.FinMap.{find, insert}
use Rattle.std.specs.HashMap.{HashMap}
use Rattle.repl_peer.specs.{PeerValue, Rules, Lawful, rules_refuse}
use Rattle.script_databases.specs.{State, text_cmp, AllDeny, Beside, Entries, IsWithBoth, IsWithOne, deny_of, entry_at, peer_at, peers_of, state_of, with_both, with_peer, deny_refuses, IsIndex}
use Rattle.doc_json.specs.Document.{Document}
use Rattle.repl_network.specs.{IsAdded, IsHeldBy}

text_cmp-IsAntisymmetric : IsAntisymmetric text_cmp
text_cmp-IsAntisymmetric = slice_cmp-IsAntisymmetric nat_cmp-IsAntisymmetric

-- ---- names

-- two names are equal, or not
pub names : (n m : List ℕ) → (n ≡ m) ⊎ (n ≢ m)
names n m = elim (cases_Bool (bytes_eq n m)) [ inl t ↦ inl ((bytes_eq-Decides n m).0 t) | inr f ↦ inr (λ e. both_ways _ f ((bytes_eq-Decides n m).1 e)) ]

pub differ : (n m : List ℕ) → n ≢ m → bytes_eq n m ≡ false
differ n m ne = false_from_ne_true (bytes_eq n m) (λ t. ne ((bytes_eq-Decides n m).0 t))

-- two names of values with different UUIDs
pub names_apart : {X : Type 0} (at : List ℕ → Option X) (uuid : X → ℕ) (a b : List ℕ) (p q : X) → at a ≡ Some p → at b ≡ Some q → uuid p ≢ uuid q → a ≢ b
names_apart at uuid a b p q at_p at_q ne e = ne (ap uuid (same_Some p q (sym at_p ∙ ap at e ∙ at_q)))

-- ---- maps

-- the value at a name after another value was stored
pub got : {V : Type 0} (m : FinMap text_cmp V) (k : List ℕ) (v : V) (q : List ℕ) → get (insert m k v) q ≡ cond (bytes_eq k q) (Some v) (get m q)
got m k v q = get-insert nat_list_cmp_total m k v q ∙ ap (λ b. cond b (Some v) (get m q)) ((eq_by_cmp_equiv nat_list_cmp_total).symm q k ∙ is_eq-slice_cmp k q)

-- storing a found value again changes nothing
insert-same : {V : Type 0} (m : FinMap text_cmp V) (k : List ℕ) (v : V) → get m k ≡ Some v → insert m k v ≡ m
insert-same m k v is = same_map nat_list_cmp_total text_cmp-IsAntisymmetric _ _ (λ q. grind (arith, common_steps, got m k v q, (bytes_eq-Decides k q).0))

pub peer_same : (s : State) (k : List ℕ) (p : PeerValue) → peer_at s k ≡ Some p → with_peer s k p ≡ s
peer_same s k p is = ap (λ m. record s { peers = m }) (insert-same s.peers k p is)

-- ---- tables

found : (es : Entries) (q : List ℕ) → find text_cmp q (map (λ e. (string_bytes e.0, e.1.1)) es) ≡ option_map (λ p. p.1) (entry_at es q)
found [] q = refl
found (e ∷ es) q = grind (arith, common_steps, is_eq-slice_cmp q (string_bytes e.0), found es q)

-- the peer at a name
pub peer_of : (es : Entries) (q : List ℕ) → get (peers_of es) q ≡ option_map (λ p. p.1) (entry_at es q)
peer_of es q = get-from_entries nat_list_cmp_total (map (λ e. (string_bytes e.0, e.1.1)) es) q ∙ found es q

pub at_of : (es : Entries) (q : List ℕ) (o : Option (Rules × PeerValue)) → entry_at es q ≡ o → get (peers_of es) q ≡ option_map (λ p. p.1) o
at_of es q o e = peer_of es q ∙ ap (option_map (λ p. p.1)) e

pub has_at : (es : Entries) (q : List ℕ) → contains_key (peers_of es) q ≡ is_some (entry_at es q)
has_at es q = grind (arith, common_steps, peer_of es q)

module _ (g : Beside) (es new : Entries) (a : List ℕ) (p : Rules × PeerValue) (h : IsWithOne es a p new) where
  pub state_one : state_of g new ≡ with_peer (state_of g es) a p.1
  state_one = ap (λ m. record (state_of g es) { peers = m }) (same_map nat_list_cmp_total text_cmp-IsAntisymmetric _ _ (λ q. grind (arith, common_steps, h q, peer_of new q, peer_of es q, got (peers_of es) a p.1 q)))

  pub deny_one : (deny : Option (List ℕ)) → deny_of p.0 ≡ deny → AllDeny deny es → AllDeny deny new
  deny_one deny own all q x e = grind (arith, common_steps, h q, all q x)

module _ (g : Beside) (es new : Entries) (a b : List ℕ) (p q : Rules × PeerValue) (h : IsWithBoth es a b p q new) where
  pub state_both : state_of g new ≡ with_both (state_of g es) a b p.1 q.1
  state_both = ap (λ m. record (state_of g es) { peers = m }) (same_map nat_list_cmp_total text_cmp-IsAntisymmetric _ _ (λ n.
      grind (arith, common_steps, h n, peer_of new n, peer_of es n, got (peers_of es) a p.1 n, got (insert (peers_of es) a p.1) b q.1 n)))

  pub deny_both : (deny : Option (List ℕ)) → deny_of p.0 ≡ deny → deny_of q.0 ≡ deny → AllDeny deny es → AllDeny deny new
  deny_both deny own own' all n x e = grind (arith, common_steps, h n, all n x)

-- the two entries that were replaced first are overwritten
pub both_over : (es mid new : Entries) (a b : List ℕ) (d e x y : Rules × PeerValue) → IsWithBoth es a b d e mid → IsWithBoth mid a b x y new → IsWithBoth es a b x y new
both_over es mid new a b d e x y h k n = grind (arith, common_steps, k n, h n)

-- an entry stays under its name
pub still_there : (es new : Entries) (a b : List ℕ) (p : Rules × PeerValue) → IsWithOne es a p new → is_some (entry_at es b) ≡ true → is_some (entry_at new b) ≡ true
still_there es new a b p h there = grind (arith, common_steps, h b)

pub still_both : (es new : Entries) (a b : List ℕ) (p q : Rules × PeerValue) → IsWithBoth es a b p q new → (n : List ℕ) → contains_key (peers_of es) n ≡ true → contains_key (peers_of new) n ≡ true
still_both es new a b p q h n there = grind (arith, common_steps, h n, has_at new n, has_at es n)

-- ---- entries that are replaced in a map

module _ {S : Type 0} where
  pub one_updated : (old new : HashMap (String Global) (Rules × PeerValue) S) (a : List ℕ) (p : Rules × PeerValue) → UpdatesBy string_eq (λ s. bytes_eq a (string_bytes s)) old new (Some p) → IsWithOne old.entries a p new.entries
  one_updated old new a p h = hash_map_updates_text a old new (Some p) h

  pub two_updated : (old mid new : HashMap (String Global) (Rules × PeerValue) S) (a b : List ℕ) (p q : Rules × PeerValue) → UpdatesBy string_eq (λ s. bytes_eq a (string_bytes s)) old mid (Some p) → UpdatesBy string_eq (λ s. bytes_eq b (string_bytes s)) mid new (Some q)
      → IsWithBoth old.entries a b p q new.entries
  two_updated old mid new a b p q h k n = one_updated mid new b q k n ∙ ap (cond (bytes_eq b n) (Some q)) (one_updated old mid a p h n)

  -- the entry of a new name
  pub one_inserted : (es : Entries) (old new : HashMap (String Global) (Rules × PeerValue) S) (key : String Global) (name : List ℕ) (p : Rules × PeerValue) → old.entries ≡ es → string_bytes key ≡ name → UpdatesBy string_eq (string_eq key) old new (Some p) → IsWithOne es name p new.entries
  one_inserted es old new key name p same is h n =
      one_updated old new (string_bytes key) p h n ∙ ap (λ k. cond (bytes_eq k n) (Some p) (entry_at old.entries n)) is ∙ ap (λ x. cond (bytes_eq name n) (Some p) (entry_at x n)) same

rules_are : (deny : Option (String Global)) → ◌≡◌ {A = Document → Bool} (λ d. option_map_or (λ prefix. starts_with nat_eq d.id (string_bytes prefix)) deny false) (deny_refuses (option_map string_bytes deny))
rules_are None = refl
rules_are (Some prefix) = refl

pub refuses_is : (deny : Option (List ℕ)) (rules : Rules) → deny_of rules ≡ deny → rules_refuse rules ≡ deny_refuses deny
refuses_is deny rules own = rules_are rules.deny ∙ ap deny_refuses own

pub lawful_of : (deny : Option (List ℕ)) (p : Rules × PeerValue) → deny_of p.0 ≡ deny → Lawful (rules_refuse p.0) p.1 → Lawful (deny_refuses deny) p.1
lawful_of deny p own law = subst (λ f. Lawful f p.1) (refuses_is deny p.0 own) law

pub index_none : (peers : List ℕ → Option PeerValue) (uuids : List ℕ) → ((n : List ℕ) → peers n ≡ None) → uuids ≡ [] → IsIndex peers uuids
index_none peers uuids none e = record {
  noted = λ u h. absurd (true≢false (sym h ∙ ap (list_any (nat_eq u)) e));
  taken = λ u t. absurd (none-some t.1 (sym (none t.0) ∙ t.2));
}

-- the databases have the same UUIDs as before
pub index_same : (peers peers' : List ℕ → Option PeerValue) (uuids : List ℕ) → ((u : ℕ) → (IsHeldBy peers u → IsHeldBy peers' u) × (IsHeldBy peers' u → IsHeldBy peers u)) → IsIndex peers uuids → IsIndex peers' uuids
index_same peers peers' uuids same index = record { noted = λ u h. (same u).0 (index.noted u h); taken = λ u t. index.taken u ((same u).1 t) }

pub index_added : (peers peers' : List ℕ → Option PeerValue) (name : List ℕ) (l : PeerValue) (uuids more : List ℕ) (k : ℕ) → IsIndex peers uuids → IsAdded peers name l peers' → k ≡ l.db.uuid → ((q : ℕ) → list_any (nat_eq q) more ≡ cond (nat_eq k q) true (list_any (nat_eq q) uuids))
    → IsIndex peers' more
index_added peers peers' name l uuids more k index a e h = record {
  noted = λ u among. elim (nat_eq k u) as (λ b. nat_eq k u ≡ b → IsHeldBy peers' u) [
    | true ↦ λ t. (name, l, a.now, sym e ∙ eqb-true k u t)
    | false ↦ λ f.
        let known = index.noted u (sym (h u ∙ ap (λ b. cond b true (list_any (nat_eq u) uuids)) f) ∙ among) in
        (known.0, known.1, a.others known.0 (λ q. none-some known.1 (sym a.free ∙ ap peers (sym q) ∙ known.2)) ∙ known.2, known.3)
  ] refl;
  taken = λ u t. elim (names t.0 name) [
    | inl q ↦ (let same : l ≡ t.1 = same_Some l t.1 (sym a.now ∙ ap peers' (sym q) ∙ t.2) in grind (arith, common_steps, h u, eq-eqb k u, ap (λ (x : PeerValue). x.db.uuid) same, t.3))
    | inr o ↦ (let old = index.taken u (t.0, t.1, sym (a.others t.0 o) ∙ t.2, t.3) in grind (arith, common_steps, h u))
  ];
}
