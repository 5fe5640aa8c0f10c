-- Each direction of `sync` has its guarantee, and both together have theirs.
use Rattle.proof_prelude.proofs.{◌≡◌, List, ℕ, Some, None, codes, Ok, Err, inl, inr, refl, sym, ap, subst, ◌∙◌, cond_both}
use Rattle.serde_json.specs.Data.{Data}
use Rattle.script_engine.specs.{Told, MayTell, in_full, gave_up, served_only}
use Rattle.script_databases.specs.{IsConsistent, MeetsAfter, State, peer_at}
use Rattle.command_api.specs.Checks.{needed}
use Rattle.command_api.specs.Members.{as_texts, as_uuid, has_only, if_only, name_at, optional}
use Rattle.command_api.proofs.{bound}
use Rattle.script_databases.proofs.{Brings, brings_meet, same_Ok}
use Rattle.write_commands.specs.{ReplicateAsk, ReportsReplication, IsDone, SyncAsk, Syncs, IsMet, with_session}
use Rattle.write_commands.specs.Sync.{shared_in, sync_in, sync_keys, way, way_options}
use Rattle.script_databases.specs.declared.refusal.Refusal.TheVariants as why
use Rattle.write_commands.proofs.trust.Replicate.{Brought, IsBrought, brings_done, covered_by, may_memory, reports_brought}

-- the second direction is between the same two databases
abbrev pub AreTurned : SyncAsk → Type 0
AreTurned ask = (ask.back.source ≡ ask.there.target) × (ask.back.target ≡ ask.there.source)

only_turned : (d : Data) (x ask : SyncAsk) → AreTurned x → needed (if_only sync_keys d x) ≡ Ok ask → AreTurned ask
only_turned d x ask h e = cond_both (has_only sync_keys d) (Some x) None (λ o. needed o ≡ Ok ask → AreTurned ask) (λ _ k. subst AreTurned (same_Ok x ask k) h) (λ _ k. cc) e

-- a line has one pair of databases
pub sync_turned : (d : Data) (ask : SyncAsk) → sync_in d ≡ Ok ask → AreTurned ask
sync_turned d ask e =
    let k1 = bound (needed (name_at (codes "a") d)) _ ask e in
    let k2 = bound (needed (name_at (codes "b") d)) _ ask k1.2 in
    let k3 = bound (needed (optional as_texts (codes "doc_ids") d)) _ ask k2.2 in
    let k4 = bound (needed (optional as_uuid (codes "there") d)) _ ask k3.2 in
    let k5 = bound (needed (optional as_uuid (codes "back") d)) _ ask k4.2 in
    let k6 = bound (shared_in d) _ ask k5.2 in
    only_turned d (record { there = way k1.0 k2.0 k3.0 (way_options k6.0 k4.0); back = way k2.0 k1.0 k3.0 (way_options k6.0 k5.0) }) ask (refl, refl) k6.2

-- one direction, which may run out of memory
may_bring : (old new : State) → IsConsistent old → (ask : ReplicateAsk) (told : Told) → MayTell ReportsReplication old ask told new → IsBrought old new ask told
may_bring old new h ask told (in_full d) = reports_brought old new h ask told d
may_bring old new h ask told gave_up = (why.Memory, refl, may_memory ask)
may_bring old new h ask told (served_only text d) = (why.Memory, refl, may_memory ask)

-- both directions
meets : (old mid new : State) → IsConsistent old → IsConsistent mid → IsConsistent new → (ask : SyncAsk) → AreTurned ask → (first second : List ℕ) (k : Brought old mid ask.there first) (l : Brought mid new ask.back second) → IsDone k.ending → IsDone l.ending
    → MeetsAfter old new ask.there.source ask.there.target k.plan.chosen l.plan.chosen
meets old mid new h h' h'' ask (e, f) first second k l done done' =
    let a = ask.there.source in
    let b = ask.there.target in
    let begun' = with_session mid ask.back.options in
    let there = brings_done _ mid a b k.source k.target k.plan k.ending done k.brings in
    let back = brings_done begun' new ask.back.source ask.back.target l.source l.target l.plan l.ending done' l.brings in
    let turned : Brings begun' b a l.source l.target l.plan back.0 new =
    subst (λ n. Brings begun' b n l.source l.target l.plan back.0 new) f (subst (λ n. Brings begun' n ask.back.target l.source l.target l.plan back.0 new) e back.1) in
    brings_meet old (with_session old ask.there.options) mid begun' new h h' h'' a b k.source k.target l.source l.target k.at_source k.at_target (ap (peer_at mid) (sym e) ∙ l.at_source) (ap (peer_at mid) (sym f) ∙ l.at_target) k.plan l.plan there.0 back.0 there.1 turned

pub syncs_met : (old new : State) → IsConsistent old → IsConsistent new → (ask : SyncAsk) → AreTurned ask → (told : Told) → Syncs old ask told new → IsMet old new ask told
syncs_met old new h h'' ask turned told (Err name, mid, d, (is, same)) =
    let k = may_bring old mid h ask.there (Err name) d in
    subst (IsMet old new ask) (sym is) (k.0, k.1, inl k.2)
syncs_met old new h h'' ask turned told (Ok first, mid, d, (h', Err name, e, is)) =
    let l = may_bring mid new h' ask.back (Err name) e in
    subst (IsMet old new ask) (sym is) (l.0, l.1, inr l.2)
syncs_met old new h h'' ask turned told (Ok first, mid, d, (h', Ok second, e, is)) =
    let k = may_bring old mid h ask.there (Ok first) d in
    let l = may_bring mid new h' ask.back (Ok second) e in
    subst (IsMet old new ask) (sym is) (
      mid,
      first,
      second,
      k.plan.session,
      l.plan.session,
      k.ending,
      l.ending,
      k.plan.chosen,
      l.plan.chosen,
      refl,
      h',
      covered_by old mid h h' ask.there first k,
      covered_by mid new h' h'' ask.back second l,
      meets old mid new h h' h'' ask turned first second k l,
    )
