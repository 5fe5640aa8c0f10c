use Rattle.proof_prelude.proofs.{◌≡◌, Ok, Err, ap, subst}
use Rattle.repl_target.specs.{Replicates, refused_there, refused_back, both}
use Rattle.repl_peer.specs.{PeerValue}
use Rattle.repl_target.proofs.{replicates_left, left_law, turned_tied, source_stays, target_stays, both_stay, replicates_leaves, both_meet}
use Rattle.repl_target.proofs.replication.sync.sync_alone.Goals as goal

pub returns-in-Err-clause-replicates : goal.returns-in-Err-clause-replicates
returns-in-Err-clause-replicates g c = refused_there c.in-Err.ensures.replicates

pub returns-in-Err-clause-tied_back : goal.returns-in-Err-clause-tied_back
returns-in-Err-clause-tied_back g c = turned_tied c.args.a.now.1 c.args.b.now.1 c.replicate_alone.new.source.1 c.replicate_alone.new.target.1 c.replicate_alone.ensures.others

pub returns-in-Err-clause-others : goal.returns-in-Err-clause-others
returns-in-Err-clause-others g c = (
  source_stays c.args.a.now.1 c.args.b.now.1 c.replicate_alone.new.source.1 c.replicate_alone.new.target.1 c.replicate_alone.ensures.others,
  target_stays c.args.a.now.1 c.args.b.now.1 c.replicate_alone.new.source.1 c.replicate_alone.new.target.1 c.replicate_alone.ensures.others,
)

pub returns-in-Err-replicate_alone-clause-replicates : goal.returns-in-Err-replicate_alone-clause-replicates
returns-in-Err-replicate_alone-clause-replicates g c =
    refused_back c.in-Ok.ensures.replicates
    (subst (λ f. Replicates (g.F.WriteFilter.refuses f) c.replicate_alone.new.target.1 c.replicate_alone.new.source.1 c.args.back.now (Err c.in-Err-replicate_alone.fault) c.replicate_alone-2.new.source.1 c.replicate_alone-2.new.target.1) c.replicate_alone.ensures.filters.0 c.in-Err-replicate_alone.ensures.replicates)

pub returns-in-Err-replicate_alone-clause-tied_there : goal.returns-in-Err-replicate_alone-clause-tied_there
returns-in-Err-replicate_alone-clause-tied_there g c =
    λ chosen backups h.
    turned_tied c.replicate_alone.new.target.1 c.replicate_alone.new.source.1 c.replicate_alone-2.new.source.1 c.replicate_alone-2.new.target.1 c.replicate_alone-2.ensures.others chosen backups
    (c.replicate_alone.ensures.tied chosen backups h)

pub returns-in-Err-replicate_alone-clause-tied_back : goal.returns-in-Err-replicate_alone-clause-tied_back
returns-in-Err-replicate_alone-clause-tied_back g c =
    λ chosen backups h.
    c.replicate_alone-2.ensures.tied chosen backups
    (turned_tied c.args.a.now.1 c.args.b.now.1 c.replicate_alone.new.source.1 c.replicate_alone.new.target.1 c.replicate_alone.ensures.others chosen backups h)

pub returns-in-Err-replicate_alone-clause-others : goal.returns-in-Err-replicate_alone-clause-others
returns-in-Err-replicate_alone-clause-others g c =
    let first = c.replicate_alone in
    let second = c.replicate_alone-2 in
    let refuses = g.G.WriteFilter.refuses c.args.b.now.0 in
    let same_a = ap (λ (p : PeerValue). p.db.uuid) first.ensures.source in
    let same_b : first.new.target.1.db.uuid ≡ c.args.b.now.1.db.uuid =
    (left_law refuses c.args.a.now.1 c.args.b.now.1 c.args.there.now first.new.target.1 c.law.ensures.database c.law-2.ensures.peer.sessions (replicates_left refuses c.args.a.now.1 c.args.b.now.1 c.args.there.now _ _ _ first.ensures.replicates)).1.db.uuid in
    both_stay c.args.a.now.1 c.args.b.now.1 first.new.source.1 first.new.target.1 second.new.target.1 second.new.source.1 first.ensures.others second.ensures.others same_a same_b

pub returns-clause-replicates : goal.returns-clause-replicates
returns-clause-replicates g c =
    both c.in-Ok.ensures.replicates
    (subst (λ f. Replicates (g.F.WriteFilter.refuses f) c.replicate_alone.new.target.1 c.replicate_alone.new.source.1 c.args.back.now (Ok c.in-Ok-replicate_alone.report) c.replicate_alone-2.new.source.1 c.replicate_alone-2.new.target.1) c.replicate_alone.ensures.filters.0 c.in-Ok-replicate_alone.ensures.replicates)

pub returns-clause-tied_there : goal.returns-clause-tied_there
returns-clause-tied_there g c =
    λ chosen backups h.
    turned_tied c.replicate_alone.new.target.1 c.replicate_alone.new.source.1 c.replicate_alone-2.new.source.1 c.replicate_alone-2.new.target.1 c.replicate_alone-2.ensures.others chosen backups
    (c.replicate_alone.ensures.tied chosen backups h)

pub returns-clause-tied_back : goal.returns-clause-tied_back
returns-clause-tied_back g c =
    λ chosen backups h.
    c.replicate_alone-2.ensures.tied chosen backups
    (turned_tied c.args.a.now.1 c.args.b.now.1 c.replicate_alone.new.source.1 c.replicate_alone.new.target.1 c.replicate_alone.ensures.others chosen backups h)

pub returns-clause-others : goal.returns-clause-others
returns-clause-others g c =
    let first = c.replicate_alone in
    let second = c.replicate_alone-2 in
    let refuses = g.G.WriteFilter.refuses c.args.b.now.0 in
    let same_a = ap (λ (p : PeerValue). p.db.uuid) first.ensures.source in
    let same_b : first.new.target.1.db.uuid ≡ c.args.b.now.1.db.uuid =
    (left_law refuses c.args.a.now.1 c.args.b.now.1 c.args.there.now first.new.target.1 c.law.ensures.database c.law-2.ensures.peer.sessions (replicates_left refuses c.args.a.now.1 c.args.b.now.1 c.args.there.now _ _ _ first.ensures.replicates)).1.db.uuid in
    both_stay c.args.a.now.1 c.args.b.now.1 first.new.source.1 first.new.target.1 second.new.target.1 second.new.source.1 first.ensures.others second.ensures.others same_a same_b

pub returns-clause-meet : goal.returns-clause-meet
returns-clause-meet g c =
    let first = c.replicate_alone.ensures in
    let second = c.replicate_alone-2.ensures in
    let refuses_a = g.F.WriteFilter.refuses c.replicate_alone.new.source.0 in
    let refuses_b = g.G.WriteFilter.refuses c.args.b.now.0 in
    let a = c.args.a.now.1 in
    let b = c.args.b.now.1 in
    let a' = c.replicate_alone.new.source.1 in
    let b' = c.replicate_alone.new.target.1 in
    let b'' = c.replicate_alone-2.new.source.1 in
    let a'' = c.replicate_alone-2.new.target.1 in
    both_meet refuses_a refuses_b a b a' b' a'' b'' c.args.there.now c.args.back.now c.law.ensures.database
    c.law-3.ensures.database c.law-5.ensures.database
    (replicates_leaves refuses_b a b c.args.there.now _ _ _ first.replicates first.source first.tied first.others) (replicates_leaves refuses_a b' a' c.args.back.now _ _ _ second.replicates second.source second.tied second.others) c.in-Ok.ensures.whole c.in-Ok-replicate_alone.ensures.whole
