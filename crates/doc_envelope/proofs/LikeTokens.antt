-- Texts whose lexemes differ in the content of strings alone are alike as documents.
use Rattle.proof_prelude.proofs.{◌≡◌, ℕ, zero, suc, List, [], ◌∷◌, length, Bool, true, false, cond, ◌&&◌, ◌||◌, refl, ap, subst, ◌∙◌, Option, Some, None, option_and_then, is_some, bytes_eq, codes}
use Rattle.json.specs.Token.{Token, begin_object, end_object, begin_array, end_array, key, string, number, boolean, null, bad}
use Rattle.json.specs.Lex.{Lexeme, token, comma, colon, Place, fresh, after_value, after_comma, after_key, begins_colon, may_begin, may_close, if_allowed, place_token, punctuate, lex, between}
use Rattle.json.specs.Json.{Json, Items, Members, Parse, no_items, item, no_members, member, parse_map, items, members, items_step, members_step, value_with, value, if_last, max_depth, document}
use Rattle.json.specs.Json as j
use Rattle.json.specs.Find.{as_str, as_bool}
use Rattle.doc_envelope.specs.{all_may_stand, may_stand, is_envelope_value}

-- Lexemes that differ in the content of strings alone, up to a fault. If `keys` is false, keys do not differ.
pub data Like (keys : Bool) : List Lexeme → List Lexeme → Type 0 where
  nothing : Like keys [] []
  same : {ls ms : List Lexeme} (l : Lexeme) → Like keys ls ms → Like keys (l ∷ ls) (l ∷ ms)
  strings : {ls ms : List Lexeme} (a b : List ℕ) → (begins_colon ls ≡ true → keys ≡ true) → Like keys ls ms → Like keys (token (string a) ∷ ls) (token (string b) ∷ ms)
  fault : (ls ms : List Lexeme) → Like keys (token bad ∷ ls) (token bad ∷ ms)

-- the same of tokens
data Tokens (keys : Bool) : List Token → List Token → Type 0 where
  no_tokens : Tokens keys [] []
  same_token : {ts us : List Token} (t : Token) → Tokens keys ts us → Tokens keys (t ∷ ts) (t ∷ us)
  string_tokens : {ts us : List Token} (a b : List ℕ) → Tokens keys ts us → Tokens keys (string a ∷ ts) (string b ∷ us)
  key_tokens : {ts us : List Token} (a b : List ℕ) → keys ≡ true → Tokens keys ts us → Tokens keys (key a ∷ ts) (key b ∷ us)

-- ---- commas and colons

colon_of : (l : Lexeme) (ls ms : List Lexeme) → begins_colon (l ∷ ls) ≡ begins_colon (l ∷ ms)
colon_of (token t) ls ms = refl
colon_of comma ls ms = refl
colon_of colon ls ms = refl

like_colon : (k : Bool) (ls ms : List Lexeme) → Like k ls ms → begins_colon ls ≡ begins_colon ms
like_colon k ls ms nothing = refl
like_colon k x y (same {ls} {ms} l h) = colon_of l ls ms
like_colon k x y (strings a b f h) = refl
like_colon k x y (fault ls ms) = refl

module _ (k : Bool) where
  faults : Tokens k (bad ∷ []) (bad ∷ [])
  faults = same_token bad no_tokens

  allowed : (b : Bool) (t : Token) (f g : Place → List Token) (q : Place) → ((r : Place) → Tokens k (f r) (g r)) → Tokens k (if_allowed b t f q) (if_allowed b t g q)
  allowed true t f g q h = same_token t (h q)
  allowed false t f g q h = faults

  placed : (t : Token) (p : Place) (c : Bool) (f g : Place → List Token) → ((r : Place) → Tokens k (f r) (g r)) → Tokens k (place_token p t c f) (place_token p t c g)
  placed begin_object p c f g h = allowed (may_begin p) begin_object f g fresh h
  placed end_object p c f g h = allowed (may_close p) end_object f g after_value h
  placed begin_array p c f g h = allowed (may_begin p) begin_array f g fresh h
  placed end_array p c f g h = allowed (may_close p) end_array f g after_value h
  placed (key s) p c f g h = faults
  placed (string s) p true f g h = allowed (may_begin p) (key s) f g after_key h
  placed (string s) p false f g h = allowed (may_begin p) (string s) f g after_value h
  placed (number s) p c f g h = allowed (may_begin p) (number s) f g after_value h
  placed (boolean b) p c f g h = allowed (may_begin p) (boolean b) f g after_value h
  placed null p c f g h = allowed (may_begin p) null f g after_value h
  placed bad p c f g h = faults

  placed_strings : (a b : List ℕ) (p : Place) (c : Bool) (f g : Place → List Token) → (c ≡ true → k ≡ true) → ((r : Place) → Tokens k (f r) (g r))
      → Tokens k (place_token p (string a) c f) (place_token p (string b) c g)
  placed_strings a b p true f g e h = at (may_begin p) where
    at : (x : Bool) → Tokens k (if_allowed x (key a) f after_key) (if_allowed x (key b) g after_key)
    at true = key_tokens a b (e refl) (h after_key)
    at false = faults
  placed_strings a b p false f g e h = at (may_begin p) where
    at : (x : Bool) → Tokens k (if_allowed x (string a) f after_value) (if_allowed x (string b) g after_value)
    at true = string_tokens a b (h after_value)
    at false = faults

  punctuated : (ls ms : List Lexeme) → Like k ls ms → (p : Place) → Tokens k (punctuate p ls) (punctuate p ms)
  unfolding punctuate
  punctuated ls ms nothing fresh = no_tokens
  punctuated ls ms nothing after_value = no_tokens
  punctuated ls ms nothing after_comma = faults
  punctuated ls ms nothing after_key = faults
  punctuated x y (same {ls} {ms} (token t) h) p =
      subst (λ c. Tokens k (place_token p t (begins_colon ls) (λ q. punctuate q ls)) (place_token p t c (λ q. punctuate q ms))) (like_colon k ls ms h)
      (placed t p (begins_colon ls) (λ q. punctuate q ls) (λ q. punctuate q ms) (punctuated ls ms h))
  punctuated x y (same {ls} {ms} comma h) fresh = faults
  punctuated x y (same {ls} {ms} comma h) after_value = punctuated ls ms h after_comma
  punctuated x y (same {ls} {ms} comma h) after_comma = faults
  punctuated x y (same {ls} {ms} comma h) after_key = faults
  punctuated x y (same {ls} {ms} colon h) fresh = faults
  punctuated x y (same {ls} {ms} colon h) after_value = faults
  punctuated x y (same {ls} {ms} colon h) after_comma = faults
  punctuated x y (same {ls} {ms} colon h) after_key = punctuated ls ms h fresh
  punctuated x y (strings {ls} {ms} a b e h) p =
      subst (λ c. Tokens k (place_token p (string a) (begins_colon ls) (λ q. punctuate q ls)) (place_token p (string b) c (λ q. punctuate q ms))) (like_colon k ls ms h)
      (placed_strings a b p (begins_colon ls) (λ q. punctuate q ls) (λ q. punctuate q ms) e (punctuated ls ms h))
  punctuated x y (fault ls ms) p = faults

  -- ---- the grammar

  -- both readings fail, or both results are related and the remaining tokens are alike
  abbrev Alike : {A : Type 0} → (A → A → Type 0) → Option (A × List Token) → Option (A × List Token) → Type 0
  Alike R None None = Unit {0}
  Alike R None (Some q) = ⊥
  Alike R (Some p) None = ⊥
  Alike R (Some p) (Some q) = R p.0 q.0 × Tokens k p.1 q.1

  abbrev pub JsonLike : Json → Json → Type 0
  JsonLike x y = k ≡ false → (is_some (as_bool x) ≡ is_some (as_bool y)) × (is_some (as_str x) ≡ is_some (as_str y)) × (is_envelope_value (Some x) ≡ is_envelope_value (Some y))

  abbrev MembersLike : Members → Members → Type 0
  MembersLike x y = k ≡ false → all_may_stand x ≡ all_may_stand y

  abbrev ItemsLike : Items → Items → Type 0
  ItemsLike x y = Unit {0}

  map_like : {A B : Type 0} (R : A → A → Type 0) (S : B → B → Type 0) (f g : A → B) (r r' : Option (A × List Token)) → ((a b : A) → R a b → S (f a) (g b))
      → Alike R r r' → Alike S (parse_map f r) (parse_map g r')
  map_like R S f g None None e h = tt
  map_like R S f g None (Some q) e h = absurd h
  map_like R S f g (Some p) None e h = absurd h
  map_like R S f g (Some p) (Some q) e h = (e p.0 q.0 h.0, h.1)

  then_like : {A B : Type 0} (R : A → A → Type 0) (S : B → B → Type 0) (f g : A × List Token → Option (B × List Token)) (r r' : Option (A × List Token))
      → ((p q : A × List Token) → R p.0 q.0 → Tokens k p.1 q.1 → Alike S (f p) (g q)) → Alike R r r' → Alike S (option_and_then f r) (option_and_then g r')
  then_like R S f g None None e h = tt
  then_like R S f g None (Some q) e h = absurd h
  then_like R S f g (Some p) None e h = absurd h
  then_like R S f g (Some p) (Some q) e h = e p q h.0 h.1

  abbrev Reads : Parse Json → Type 0
  Reads v = (ts us : List Token) → Tokens k ts us → Alike JsonLike (v ts) (v us)

  module _ (v : Parse Json) (reads : Reads v) where
    module _ (more : Parse Items) (rest : (ts us : List Token) → Tokens k ts us → Alike ItemsLike (more ts) (more us)) where
      item_like : (ts us : List Token) → Tokens k ts us → Alike ItemsLike (items_step v more ts None) (items_step v more us None)
      item_like ts us h =
          let f = λ (p : Json × List Token). parse_map (item p.0) (more p.1) in
          then_like JsonLike ItemsLike f f (v ts) (v us) (λ p q _ g. map_like ItemsLike ItemsLike (item p.0) (item q.0) (more p.1) (more q.1) (λ a b _. tt) (rest p.1 q.1 g)) (reads ts us h)

      items_by : (ts us : List Token) → Tokens k ts us → Alike ItemsLike (items_step v more ts (j.after_end_array ts)) (items_step v more us (j.after_end_array us))
      items_by ts us no_tokens = item_like [] [] no_tokens
      items_by x y (same_token {ts} {us} begin_object h) = item_like (begin_object ∷ ts) (begin_object ∷ us) (same_token begin_object h)
      items_by x y (same_token {ts} {us} end_object h) = item_like (end_object ∷ ts) (end_object ∷ us) (same_token end_object h)
      items_by x y (same_token {ts} {us} begin_array h) = item_like (begin_array ∷ ts) (begin_array ∷ us) (same_token begin_array h)
      items_by x y (same_token {ts} {us} end_array h) = (tt, h)
      items_by x y (same_token {ts} {us} (key s) h) = item_like (key s ∷ ts) (key s ∷ us) (same_token (key s) h)
      items_by x y (same_token {ts} {us} (string s) h) = item_like (string s ∷ ts) (string s ∷ us) (same_token (string s) h)
      items_by x y (same_token {ts} {us} (number s) h) = item_like (number s ∷ ts) (number s ∷ us) (same_token (number s) h)
      items_by x y (same_token {ts} {us} (boolean s) h) = item_like (boolean s ∷ ts) (boolean s ∷ us) (same_token (boolean s) h)
      items_by x y (same_token {ts} {us} null h) = item_like (null ∷ ts) (null ∷ us) (same_token null h)
      items_by x y (same_token {ts} {us} bad h) = item_like (bad ∷ ts) (bad ∷ us) (same_token bad h)
      items_by x y (string_tokens {ts} {us} a b h) = item_like (string a ∷ ts) (string b ∷ us) (string_tokens a b h)
      items_by x y (key_tokens {ts} {us} a b e h) = item_like (key a ∷ ts) (key b ∷ us) (key_tokens a b e h)

    items_like : (n : ℕ) (ts us : List Token) → Tokens k ts us → Alike ItemsLike (items v n ts) (items v n us)
    unfolding items
    items_like zero ts us h = tt
    items_like (suc n) ts us h = items_by (items v n) (items_like n) ts us h

    module _ (more : Parse Members) (rest : (ts us : List Token) → Tokens k ts us → Alike MembersLike (more ts) (more us)) where
      stands_like : (s : List ℕ) (x y : Json) → JsonLike x y → k ≡ false → may_stand s x ≡ may_stand s y
      stands_like s x y h e =
          ap (λ b. cond (bytes_eq s (codes "_id") || bytes_eq s (codes "_rev") || bytes_eq s (codes "_revisions")) true (cond (bytes_eq s (codes "_deleted")) b (cond (bytes_eq s (codes "whole")) (is_some (as_str x)) false))) ((h e).0)
          ∙ ap (λ b. cond (bytes_eq s (codes "_id") || bytes_eq s (codes "_rev") || bytes_eq s (codes "_revisions")) true (cond (bytes_eq s (codes "_deleted")) (is_some (as_bool y)) (cond (bytes_eq s (codes "whole")) b false))) ((h e).1)

      member_like : (s t : List ℕ) → (k ≡ false → s ≡ t) → (ts us : List Token) → Tokens k ts us → Alike MembersLike (members_step v more (Some s) ts) (members_step v more (Some t) us)
      member_like s t equal ts us h =
          then_like JsonLike MembersLike (λ p. parse_map (member s p.0) (more p.1)) (λ p. parse_map (member t p.0) (more p.1)) (v ts) (v us)
          (λ p q a g. map_like MembersLike MembersLike (member s p.0) (member t q.0) (more p.1) (more q.1)
          (λ m n b e. ap (λ z. may_stand z p.0 && all_may_stand m) (equal e) ∙ ap (λ z. z && all_may_stand m) (stands_like t p.0 q.0 a e) ∙ ap (λ z. may_stand t q.0 && z) (b e)) (rest p.1 q.1 g)) (reads ts us h)

      differ : k ≡ true → k ≡ false → ⊥
      differ e f = absurd (cc)

      members_by : (ts us : List Token) → Tokens k ts us
          → Alike MembersLike (option_and_then (λ p. members_step v more p.0 p.1) (j.read_key ts)) (option_and_then (λ p. members_step v more p.0 p.1) (j.read_key us))
      members_by ts us no_tokens = tt
      members_by x y (same_token {ts} {us} begin_object h) = tt
      members_by x y (same_token {ts} {us} end_object h) = ((λ _. refl), h)
      members_by x y (same_token {ts} {us} begin_array h) = tt
      members_by x y (same_token {ts} {us} end_array h) = tt
      members_by x y (same_token {ts} {us} (key s) h) = member_like s s (λ _. refl) ts us h
      members_by x y (same_token {ts} {us} (string s) h) = tt
      members_by x y (same_token {ts} {us} (number s) h) = tt
      members_by x y (same_token {ts} {us} (boolean s) h) = tt
      members_by x y (same_token {ts} {us} null h) = tt
      members_by x y (same_token {ts} {us} bad h) = tt
      members_by x y (string_tokens {ts} {us} a b h) = tt
      members_by x y (key_tokens {ts} {us} a b e h) = member_like a b (λ f. absurd (differ e f)) ts us h

    members_like : (n : ℕ) (ts us : List Token) → Tokens k ts us → Alike MembersLike (members v n ts) (members v n us)
    unfolding members
    members_like zero ts us h = tt
    members_like (suc n) ts us h = members_by (members v n) (members_like n) ts us h

  lengths : (ts us : List Token) → Tokens k ts us → length ts ≡ length us
  lengths ts us no_tokens = refl
  lengths x y (same_token {ts} {us} t h) = ap suc (lengths ts us h)
  lengths x y (string_tokens {ts} {us} a b h) = ap suc (lengths ts us h)
  lengths x y (key_tokens {ts} {us} a b e h) = ap suc (lengths ts us h)

  module _ (a : Parse Items) (o : Parse Members) (array : (ts us : List Token) → Tokens k ts us → Alike ItemsLike (a ts) (a us))
      (object : (ts us : List Token) → Tokens k ts us → Alike MembersLike (o ts) (o us)) where
    with_like : (ts us : List Token) → Tokens k ts us → Alike JsonLike (value_with a o ts) (value_with a o us)
    with_like ts us no_tokens = tt
    with_like x y (same_token {ts} {us} begin_object h) = map_like MembersLike JsonLike j.object j.object (o ts) (o us) (λ m n e f. (refl, refl, e f)) (object ts us h)
    with_like x y (same_token {ts} {us} end_object h) = tt
    with_like x y (same_token {ts} {us} begin_array h) = map_like ItemsLike JsonLike j.array j.array (a ts) (a us) (λ m n e f. (refl, refl, refl)) (array ts us h)
    with_like x y (same_token {ts} {us} end_array h) = tt
    with_like x y (same_token {ts} {us} (key s) h) = tt
    with_like x y (same_token {ts} {us} (string s) h) = ((λ f. (refl, refl, refl)), h)
    with_like x y (same_token {ts} {us} (number s) h) = ((λ f. (refl, refl, refl)), h)
    with_like x y (same_token {ts} {us} (boolean s) h) = ((λ f. (refl, refl, refl)), h)
    with_like x y (same_token {ts} {us} null h) = ((λ f. (refl, refl, refl)), h)
    with_like x y (same_token {ts} {us} bad h) = tt
    with_like x y (string_tokens {ts} {us} b c h) = ((λ f. (refl, refl, refl)), h)
    with_like x y (key_tokens {ts} {us} b c e h) = tt

  value_like : (depth : ℕ) → Reads (value depth)
  unfolding value
  value_like zero ts us h = with_like (λ _. None) (λ _. None) (λ _ _ _. tt) (λ _ _ _. tt) ts us h
  value_like (suc depth) ts us h =
      with_like (λ ts. items (value depth) (length ts) ts) (λ ts. members (value depth) (length ts) ts)
      (λ ts us h. subst (λ n. Alike ItemsLike (items (value depth) (length ts) ts) (items (value depth) n us)) (lengths ts us h) (items_like (value depth) (value_like depth) (length ts) ts us h))
      (λ ts us h. subst (λ n. Alike MembersLike (members (value depth) (length ts) ts) (members (value depth) n us)) (lengths ts us h) (members_like (value depth) (value_like depth) (length ts) ts us h)) ts us h

  abbrev SameDocument : Option Json → Option Json → Type 0
  SameDocument x y = (is_some x ≡ is_some y) × (k ≡ false → is_envelope_value x ≡ is_envelope_value y)

  last_like : (x y : Json) (ts us : List Token) → JsonLike x y → Tokens k ts us → SameDocument (if_last x ts) (if_last y us)
  last_like x y ts us h no_tokens = (refl, (λ e. (h e).2))
  last_like x y ts us h (same_token t g) = (refl, (λ e. refl))
  last_like x y ts us h (string_tokens a b g) = (refl, (λ e. refl))
  last_like x y ts us h (key_tokens a b e g) = (refl, (λ e. refl))

  read_like : (r r' : Option (Json × List Token)) → Alike JsonLike r r' → SameDocument (option_and_then (λ p. if_last p.0 p.1) r) (option_and_then (λ p. if_last p.0 p.1) r')
  read_like None None h = (refl, (λ e. refl))
  read_like None (Some q) h = absurd h
  read_like (Some p) None h = absurd h
  read_like (Some p) (Some q) h = last_like p.0 q.0 p.1 q.1 h.0 h.1

  pub document_like : (x y : List ℕ) → Like k (lex between x) (lex between y) → (is_some (document x) ≡ is_some (document y)) × (k ≡ false → is_envelope_value (document x) ≡ is_envelope_value (document y))
  document_like x y h =
      let ts = punctuate fresh (lex between x) in
      let us = punctuate fresh (lex between y) in
      read_like (value max_depth ts) (value max_depth us) (value_like max_depth ts us (punctuated (lex between x) (lex between y) h fresh))
