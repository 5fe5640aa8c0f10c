use Rattle.proof_prelude.proofs.{◌≡◌, ◌+◌, ◌-◌, ◌<◌, suc, drop, drop_all, length, length-map, length-reverse, List, get_or, sym, ap, ap₂, ◌∙◌, arith, lookup, option_copied}
use Rattle.rev_tree.specs.{SessionId}
use Rattle.couch_base.specs.{none_some, some_is}
use Rattle.repl_log.specs.{EntryValue, at_session, value_of, with_entry}
use Rattle.repl_peer.specs.{entry_of, ids_of, sessions_of, log_of, listed}
use Rattle.repl_peer.proofs.{log_of-once, next-at, set-before, stands-at}
use Rattle.repl_peer.proofs.session.sessions.Sessions.log.Goals as goal

abbrev nobody : SessionId
nobody = record { 0 = 0 }

pub loop-i-init : goal.loop-i-init
loop-i-init c =
    let es = c.self.inside.entries.entries in
    let log = log_of (sessions_of es) c.args.rep.now in
    let ids = listed c.self.inside.by_rep c.args.rep.now in
    let long : length ids ≡ length log =
    ap length (c.self.invariant.1 c.args.rep.now) ∙ length-reverse (ids_of (sessions_of es) c.args.rep.now) ∙ length-map log (λ (e : EntryValue). e.session) in
    c.new-log.ensures.value ∙ sym (drop_all (length ids - 0) log (omega (arith, long)))

pub unreachable-requires : goal.unreachable-requires
unreachable-requires c =
    let es = c.self.inside.entries.entries in
    let i = c.loop-i.i in
    let within : i < length (listed c.self.inside.by_rep c.args.rep.now) = omega (arith, c.loop-i-test.true, ap length c.of-ids.ensures) in
    let x = next-at c.self.inside.by_rep (sessions_of es) c.args.rep.now (i + 1) nobody c.self.invariant.1 (omega arith) (omega (arith, within)) in
    let same : x.0.session ≡ get_or c.of-ids.result.now (i + 1 - 1) nobody = x.2 ∙ ap (λ (l : List SessionId). get_or l (i + 1 - 1) nobody) (sym c.of-ids.ensures) in
    let here : i + 1 - 1 ≡ i = omega arith in
    let found : x.0.session ≡ get_or c.of-ids.result.now i nobody = same ∙ ap (λ n. get_or c.of-ids.result.now n nobody) here in
    let stands = stands-at es c.args.rep.now _ x.0 c.self.invariant.0.keyed c.self.invariant.0.once x.1 in
    none_some stands.session (sym (ap option_copied c.in_default.is) ∙ c.get.ensures.value ∙ ap (λ (j : SessionId). lookup (at_session j) es) (sym found) ∙ stands.found)

pub loop-i-preserved : goal.loop-i-preserved
loop-i-preserved c =
    let es = c.self.inside.entries.entries in
    let rep = c.args.rep.now in
    let log = log_of (sessions_of es) rep in
    let ids = listed c.self.inside.by_rep rep in
    let i = c.loop-i.i in
    let within : i < length ids = omega (arith, c.loop-i-test.true, ap length c.of-ids.ensures) in
    let x = next-at c.self.inside.by_rep (sessions_of es) rep (i + 1) nobody c.self.invariant.1 (omega arith) (omega (arith, within)) in
    let same : x.0.session ≡ get_or c.of-ids.result.now (i + 1 - 1) nobody = x.2 ∙ ap (λ (l : List SessionId). get_or l (i + 1 - 1) nobody) (sym c.of-ids.ensures) in
    let here : i + 1 - 1 ≡ i = omega arith in
    let found : x.0.session ≡ get_or c.of-ids.result.now i nobody = same ∙ ap (λ n. get_or c.of-ids.result.now n nobody) here in
    let stands = stands-at es rep _ x.0 c.self.invariant.0.keyed c.self.invariant.0.once x.1 in
    let session : c.in-Some.session.now ≡ stands.session =
    some_is c.in-Some.session.now stands.session (sym (ap option_copied c.in-Some.is) ∙ c.get.ensures.value ∙ ap (λ (j : SessionId). lookup (at_session j) es) (sym found) ∙ stands.found) in
    let entry : value_of c.entry.result ≡ x.0 = c.entry.ensures ∙ ap entry_of session ∙ stands.entry in
    let next : length ids - i ≡ suc (length ids - (i + 1)) = omega (arith, within) in
    c.in_ok-set.ensures.ok
    ∙ ap₂ with_entry (c.loop-i.invariant ∙ ap (λ n. drop n log) next) entry
    ∙ set-before log (length ids - (i + 1)) x.0 (log_of-once es rep c.self.invariant.0.keyed c.self.invariant.0.once) x.1

pub returns : goal.returns
returns c =
    let es = c.self.inside.entries.entries in
    let ids = listed c.self.inside.by_rep c.args.rep.now in
    let none : length ids - c.loop-i.i ≡ 0 = omega (arith, c.loop-i-test.false, ap length c.of-ids.ensures) in
    record { log = rw (← c.self.view_is) (c.loop-i.invariant ∙ ap (λ n. drop n (log_of (sessions_of es) c.args.rep.now)) none) }
