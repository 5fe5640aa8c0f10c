-- Chains of hops through a hub.
use Rattle.proof_prelude.proofs.{◌≡◌, ℕ, zero, suc, ◌+◌, ◌<◌, ◌≤◌, List, [], ◌∷◌, ◌++◌, length, take, get_or, refl, sym, ap, ◌∙◌, subst, inl, inr, arith, cases_eq, common_steps}
use Rattle.couch_base.specs.{Id}
use Rattle.repl_peer.specs.{PeerValue}
use Rattle.repl_target.specs.{Plan}
use Rattle.repl_network.specs.{Hop, AreTied, AllChoose, Leads, LeadsEverywhere, Spread, gathers, hops_of, into_hub, out_of_hub, spreads, AllPlansChoose, HubSpread}

-- ---- chains

stays : (hops : List Hop) (m : ℕ) → Leads hops m m
stays [] m = refl
stays (h ∷ hops) m = inl (stays hops m)

then_on : (xs ys : List Hop) (l m n : ℕ) → Leads xs l m → Leads ys m n → Leads (xs ++ ys) l n
then_on [] ys l m n first second = subst (λ k. Leads ys k n) (sym first) second
then_on (h ∷ xs) ys l m n first second =
    elim first [
      | inl past ↦ inl (then_on xs ys l m n past second)
      | inr by ↦ inr (by.0, then_on xs ys h.to m n by.1 second)
    ]

-- ---- through a hub

-- the hop of each plan
led : (hop : ℕ → Plan → Hop) (plans : List Plan) (k m : ℕ) → k ≤ m → m < k + length plans → (plan : Plan) × Leads (hops_of hop k plans) (hop (m + 1) plan).from (hop (m + 1) plan).to
led hop [] k m low high = absurd (omega (arith, low, high))
led hop (plan ∷ plans) k m low high =
    elim (cases_eq k m) [
      | inl same ↦ subst (λ x. (p : Plan) × Leads (hops_of hop k (plan ∷ plans)) (hop (x + 1) p).from (hop (x + 1) p).to) same (plan, inr (refl, stays (hops_of hop (k + 1) plans) (hop (k + 1) plan).to))
      | inr other ↦ (let x = led hop plans (k + 1) m (omega arith) (omega (arith, high)) in (x.0, inl x.1))
    ]

-- a chain leads from each place to the hub, and from the hub to each place
to_hub : (plans : List Plan) (m : ℕ) → m < length plans + 1 → Leads (gathers 0 plans) m 0
to_hub plans zero h = stays (gathers 0 plans) 0
to_hub plans (suc m) h = (let one : m + 1 ≡ suc m = omega arith in subst (λ x. Leads (gathers 0 plans) x 0) one (led into_hub plans 0 m (omega arith) (omega (arith, h))).1)

from_hub : (plans : List Plan) (n : ℕ) → n < length plans + 1 → Leads (spreads 0 plans) 0 n
from_hub plans zero h = stays (spreads 0 plans) 0
from_hub plans (suc n) h = (let one : n + 1 ≡ suc n = omega arith in subst (λ x. Leads (spreads 0 plans) 0 x) one (led out_of_hub plans 0 n (omega arith) (omega (arith, h))).1)

hub_leads : (there back : List Plan) (count : ℕ) → count ≡ length there + 1 → count ≡ length back + 1 → LeadsEverywhere (gathers 0 there ++ spreads 0 back) count
hub_leads there back count a b m n i j =
    then_on (gathers 0 there) (spreads 0 back) m 0 n (to_hub there m (omega (arith, a, i))) (from_hub back n (omega (arith, b, j)))

-- ---- selecting

gathers_choose : (plans : List Plan) (k : ℕ) (id : Id) (more : List Hop) → AllPlansChoose plans id → AllChoose more id → AllChoose (gathers k plans ++ more) id
gathers_choose [] k id more h rest = rest
gathers_choose (plan ∷ plans) k id more h rest = (h.0, gathers_choose plans (k + 1) id more h.1 rest)

spreads_choose : (plans : List Plan) (k : ℕ) (id : Id) → AllPlansChoose plans id → AllChoose (spreads k plans) id
spreads_choose [] k id h = tt
spreads_choose (plan ∷ plans) k id h = (h.0, spreads_choose plans (k + 1) id h.1)

pub hub_spread : (peers : List PeerValue) (there back : List Plan) (hops : List Hop) (peers' : List PeerValue) → hops ≡ gathers 0 there ++ spreads 0 back → length peers ≡ length there + 1 → length peers ≡ length back + 1 → (AreTied peers → Spread peers hops peers')
    → AreTied peers → HubSpread peers there back peers'
hub_spread peers there back hops peers' is a b all net id first second none agree whole =
    let s = all net id (subst (λ hs. AllChoose hs id) (sym is) (gathers_choose there 0 id (spreads 0 back) first (spreads_choose back 0 id second))) none agree whole in
    record { same = s.same (subst (λ hs. LeadsEverywhere hs (length peers)) (sym is) (hub_leads there back (length peers) a b)); agree = s.agree; whole = s.whole }

-- ---- one more plan

hops_more : (hop : ℕ → Plan → Hop) (plans : List Plan) (k : ℕ) (plan : Plan) → hops_of hop k (plans ++ plan ∷ []) ≡ hops_of hop k plans ++ hop (k + length plans + 1) plan ∷ []
hops_more hop [] k plan = grind (arith, common_steps)
hops_more hop (first ∷ plans) k plan = grind (arith, common_steps, hops_more hop plans (k + 1) plan)

pub plans_next : (hop : ℕ → Plan → Hop) (plans : List Plan) (k : ℕ) (first : List Hop) (plan : Plan) (hops : List Hop) → k < length plans → plan ≡ get_or plans k plan → hops ≡ first ++ hops_of hop 0 (take k plans) → hops ++ hop (k + 1) plan ∷ [] ≡ first ++ hops_of hop 0 (take (k + 1) plans)
plans_next hop plans k first plan hops within is before = grind (arith, common_steps, hops_more hop (take k plans) 0 plan)
