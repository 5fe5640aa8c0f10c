use Rattle.proof_prelude.proofs.{◌≡◌, ◌+◌, ◌-◌, Some, None, List, drop, length, get_or, min, sym, ap, ap₂, ◌∙◌, arith, lookup, option_copied}
use Rattle.rev_tree.specs.{SessionId}
use Rattle.couch_base.specs.{none_some, some_is}
use Rattle.repl_log.specs.{common-at, common-behind, EntryValue, common, recorded_of, at_session}
use Rattle.repl_peer.specs.{SessionValue, sessions_of, log_of, listed}
use Rattle.repl_peer.proofs.{next-at, stands-at}
use Rattle.repl_peer.proofs.session.sessions.Sessions.shared_with.Goals as goal

abbrev nobody : SessionId
nobody = record { 0 = 0 }

pub unreachable-requires : goal.unreachable-requires
unreachable-requires c =
    let es = c.self.inside.entries.entries in
    let i = c.loop-left.invariant in
    let x = next-at c.self.inside.by_rep (sessions_of es) c.args.rep.now c.loop-left.left nobody c.self.invariant.1 c.loop-left-test.true i.within in
    let same : x.0.session ≡ get_or c.of-ids.result.now (c.loop-left.left - 1) nobody = x.2 ∙ ap (λ (l : List SessionId). get_or l (c.loop-left.left - 1) nobody) (sym c.of-ids.ensures) in
    let stands = stands-at es c.args.rep.now _ x.0 c.self.invariant.0.keyed c.self.invariant.0.once x.1 in
    none_some stands.session (sym (ap option_copied c.in_default-get.is) ∙ c.get.ensures.value ∙ ap (λ (j : SessionId). lookup (at_session j) es) (sym same) ∙ stands.found)

pub returns-in-Some : goal.returns-in-Some
returns-in-Some c =
    let ids = listed c.self.inside.by_rep c.args.rep.now in
    let es = c.self.inside.entries.entries in
    let i = c.loop-left.invariant in
    let x = next-at c.self.inside.by_rep (sessions_of es) c.args.rep.now c.loop-left.left nobody c.self.invariant.1 c.loop-left-test.true i.within in
    let same : x.0.session ≡ get_or c.of-ids.result.now (c.loop-left.left - 1) nobody = x.2 ∙ ap (λ (l : List SessionId). get_or l (c.loop-left.left - 1) nobody) (sym c.of-ids.ensures) in
    let held : recorded_of c.args.source.now x.0.session ≡ Some c.in-Some.recorded = ap (recorded_of c.args.source.now) same ∙ sym c.recorded_of.ensures ∙ c.in-Some.is in
    let all = common-at c.args.source.now (log_of (sessions_of es) c.args.rep.now) (length ids - c.loop-left.left) c.in-Some.recorded x.0 i.so_far x.1 held in
    let stands = stands-at es c.args.rep.now _ x.0 c.self.invariant.0.keyed c.self.invariant.0.once x.1 in
    let session : c.in-Some-get.session.now ≡ stands.session =
    some_is c.in-Some-get.session.now stands.session (sym (ap option_copied c.in-Some-get.is) ∙ c.get.ensures.value ∙ ap (λ (j : SessionId). lookup (at_session j) es) (sym same) ∙ stands.found) in
    let recorded : c.session.inside.recorded ≡ x.0.recorded =
    ap (λ (s : SessionValue). s.recorded) (c.session.view_is ∙ session) ∙ ap (λ (e : EntryValue). e.recorded) stands.entry in
    rw (← c.self.view_is) (ap₂ (λ j n. Some (j, n)) (sym same) (c.min.ensures ∙ ap (min c.in-Some.recorded) recorded) ∙ sym all)

pub loop-left-preserved : goal.loop-left-preserved
loop-left-preserved c =
    let ids = listed c.self.inside.by_rep c.args.rep.now in
    let es = c.self.inside.entries.entries in
    let log = log_of (sessions_of es) c.args.rep.now in
    let i = c.loop-left.invariant in
    let x = next-at c.self.inside.by_rep (sessions_of es) c.args.rep.now c.loop-left.left nobody c.self.invariant.1 c.loop-left-test.true i.within in
    let same : x.0.session ≡ get_or c.of-ids.result.now (c.loop-left.left - 1) nobody = x.2 ∙ ap (λ (l : List SessionId). get_or l (c.loop-left.left - 1) nobody) (sym c.of-ids.ensures) in
    let none : recorded_of c.args.source.now x.0.session ≡ None = ap (recorded_of c.args.source.now) same ∙ sym c.recorded_of.ensures ∙ c.in_default.is in
    let next : length ids - c.loop-left.left + 1 ≡ length ids - (c.loop-left.left - 1) = omega (arith, c.loop-left-test.true, i.within) in
    record {
      so_far = common-behind c.args.source.now log (length ids - c.loop-left.left) x.0 i.so_far x.1 none ∙ ap (λ n. common c.args.source.now (drop n log)) next;
      within = omega (arith, i.within);
    }
