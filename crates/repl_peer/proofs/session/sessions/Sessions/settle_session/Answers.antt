use Rattle.proof_prelude.proofs.{◌||◌, List, sym, ap, ◌∙◌, subst, option_copied_mut}
use Rattle.rev_tree.specs.{has}
use Rattle.couch_base.specs.{tree_of}
use Rattle.repl_peer.specs.{PeerValue, SessionValue, Settling, SettleGives, known_of, settling_at, with_parts, sessions_of, AreListed, IsTableOf, in_ledgers}
use Rattle.repl_peer.proofs.{settle_gives, settle_absent, session_in-at, with_session-same, sessions_of-set, Stored-more, listed-set}
use Rattle.repl_peer.proofs.session.sessions.Sessions.settle_session.Goals as goal

pub invariant_of-self-2 : goal.invariant_of-self-2
invariant_of-self-2 g c =
    let there = sym c.get_mut.ensures.value ∙ ap option_copied_mut c.in-Some.is in
    let set = (c.get_mut.follows.holds c.settle_parcel.new.session).0 in (
      subst (IsTableOf c.settle_parcel.new.ledgered) (sym set)
          (Stored-more c.self.inside.ledgered c.self.inside.entries.entries c.self.invariant.0 c.args.id c.in-Some.session.now c.settle_parcel.new.session there c.settle_parcel.new.ledgered c.settle_parcel.ensures.keeps.id c.settle_parcel.ensures.keeps.ledger c.settle_parcel.ensures.keeps.indexed),
      subst (λ es. AreListed c.self.inside.by_rep (sessions_of es)) (sym set)
          (listed-set c.self.inside.ledgered c.self.inside.by_rep c.self.inside.entries.entries c.self.invariant.0 c.args.id c.in-Some.session.now c.settle_parcel.new.session c.self.invariant.1 there c.settle_parcel.ensures.keeps.id c.settle_parcel.ensures.keeps.rep),
    )

pub returns : goal.returns
returns g c = λ p.
    let es = c.self.inside.entries.entries in
    let s = c.in-Some.session.now in
    let t = c.settle_parcel.new.session in
    let there = sym c.get_mut.ensures.value ∙ ap option_copied_mut c.in-Some.is in
    let found = session_in-at c.self.inside.ledgered es c.self.invariant.0 c.args.id _ there in
    let new = Stored-more c.self.inside.ledgered es c.self.invariant.0 c.args.id s t there c.settle_parcel.new.ledgered c.settle_parcel.ensures.keeps.id c.settle_parcel.ensures.keeps.ledger c.settle_parcel.ensures.keeps.indexed in
    let set = sessions_of-set c.self.inside.ledgered es c.self.invariant.0 c.args.id s t there c.settle_parcel.ensures.keeps.id in
    let table = ap sessions_of (c.get_mut.follows.holds t).0 ∙ set in
    let before : PeerValue = with_parts p c.args.db.now (sessions_of es) in
    let after : Settling = settling_at c.settle_parcel.new.db t in
    let refuses = g.F.WriteFilter.refuses c.args.filter.now in
    let known = known_of c.settle_parcel.new.db c.settle_parcel.new.ledgered in
    let same = with_session-same c.self.inside.ledgered es c.self.invariant.0 c.args.id s t there in
    rw (← c.self.view_is)
    (subst (λ (l : List SessionValue). SettleGives refuses before c.args.id c.args.parcel c.settle_parcel.result (with_parts p c.settle_parcel.new.db l)) (sym table)
    (settle_gives refuses known before c.args.id s c.args.parcel c.settle_parcel.result after found same (record { at = λ id r. ap (λ b. has (tree_of c.settle_parcel.new.db.docs id) r || b) (new.index id r ∙ ap (λ l. in_ledgers l id r) set) }) c.settle_parcel.ensures.gives))

pub invariant_of-self : goal.invariant_of-self
invariant_of-self g c = subst (λ m. IsTableOf c.self.inside.ledgered m.entries × AreListed c.self.inside.by_rep (sessions_of m.entries)) (sym c.get_mut.follows.holds-at-none) c.self.invariant

pub returns-in_default : goal.returns-in_default
returns-in_default g c = λ p.
    let es = c.self.inside.entries.entries in
    let there = sym c.get_mut.ensures.value ∙ ap option_copied_mut c.in_default.is in
    rw (← c.self.view_is)
    (settle_absent (g.F.WriteFilter.refuses c.args.filter.now) (with_parts p c.args.db.now (sessions_of es)) _ c.args.id c.args.parcel
    (session_in-at c.self.inside.ledgered es c.self.invariant.0 c.args.id _ there)
    (ap (λ m. with_parts p c.args.db.now (sessions_of m.entries)) c.get_mut.follows.holds-at-none))
