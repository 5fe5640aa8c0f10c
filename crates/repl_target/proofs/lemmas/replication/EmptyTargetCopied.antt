-- After a replication into an empty peer without failures, each document is as it is at the source.
use Rattle.proof_prelude.proofs.{◌≡◌, Bool, true, List, [], ◌∷◌, map, Option, Some, None, is_some, unwrap_or, Result, Ok, Err, IfOk, refl, sym, ap, ◌∙◌, subst, inl, inr, bytes_eq, and_parts, cond_both, false≢true, or_cases, nil_from_length, bytes_eq-Decides, get-empty}
use Rattle.rev_core.specs.{RevId, rev_cmp}
use Rattle.rev_tree.specs.{TreeValue, has, is_leaf, leaves, ancestors, merged, no_revisions, is_among-leaves, Origin, SessionId, same_leaves, IsPart, nothing_is_part, given, part_merged, whole_part}
use Rattle.doc_json.specs.Document.{Document}
use Rattle.doc_json.specs.{Choice, is_chosen}
use Rattle.couch_base.specs.{Among, none_some, some_is, Id, DocumentValue, DatabaseValue, LawfulDatabase, tree_in, tree_of, with_tree, tree_in-with_tree, row_of, feed, leaf_document, put_answer, is_changed, after_put, Among-mapped, any_member}
use Rattle.repl_peer.specs.{PeerValue, SessionValue, session_in, in_ledger, covers, LawfulSessions, rep_between, log_of, source_log, new_session, begun, Report, TargetFault}
use Rattle.repl_target.specs.{CoversFeedOf, Reading, ReadsAll, start_at, start_between, begins_answer, after_begins, Closes, CoversFrom, IsEmpty, SameDocuments, beginning_between, Plan}
use Rattle.repl_log.specs.{common}
use Rattle.repl_target.proofs.lemmas.replication.FetchedDocuments.{tree_lawful, IsLeafOf, of_run, run_keeps, database_kept}
use Rattle.repl_target.proofs.lemmas.replication.CallLaws.{each-kept}
use Rattle.repl_peer.proofs.{KeptByChanges, among_from, one_session, session_found, rises_member}
use Rattle.repl_target.proofs.lemmas.ties.TiedPages.{in_chosen}
use Rattle.repl_target.proofs.lemmas.replication.RunsConcluded.{Started, Concludes, all-concludes}

-- ---- databases

-- each tree of a database is a part of the source's
abbrev pub IsPartOf : DatabaseValue → DatabaseValue → Type 0
IsPartOf source db = (id : Id) → IsPart (tree_of source.docs id) (tree_of db.docs id)

-- the tree of a document with one more leaf
abbrev grown : DatabaseValue → DatabaseValue → Id → RevId → Origin → TreeValue
grown source db id leaf o = merged (tree_of db.docs id) (ancestors (tree_of source.docs id) leaf) (given (tree_of source.docs id) leaf) o

changed_part : (source db : DatabaseValue) (at : Id) (leaf : RevId) (o : Origin) → LawfulDatabase source → is_leaf (tree_of source.docs at) leaf ≡ true → IsPartOf source db → IsPartOf source (with_tree db at (grown source db at leaf o))
changed_part source db at leaf o law top part id =
    let t = grown source db at leaf o in
    subst (λ (x : Option TreeValue). IsPart (tree_of source.docs id) (unwrap_or x no_revisions)) (sym (tree_in-with_tree db at t id))
    (cond_both (bytes_eq at id) (Some t) (tree_in db.docs id) (λ (x : Option TreeValue). IsPart (tree_of source.docs id) (unwrap_or x no_revisions))
    (λ same. subst (λ (i : Id). IsPart (tree_of source.docs i) t) ((bytes_eq-Decides at id).0 same)
    (part_merged (tree_of source.docs at) (tree_of db.docs at) (tree_lawful source law at) (part at) leaf top o))
    (λ _. part id))

put_part : (source db : DatabaseValue) (d : Document) (o : Origin) → LawfulDatabase source → IsLeafOf source d → IsPartOf source db → IsPartOf source (after_put db d o)
put_part source db d o law from part =
    let handed = leaf_document from.id (tree_of source.docs from.id) from.leaf in
    subst (λ (x : Document). IsPartOf source (after_put db x o)) (sym from.is)
    (cond_both (is_changed (put_answer db handed)) (with_tree db from.id (grown source db from.id from.leaf o)) db (IsPartOf source) (λ _. changed_part source db from.id from.leaf o law from.top part) (λ _. part))

-- ---- the calls of a replication

-- a peer that has a part of the source, and exactly one session
record Copying (source : DatabaseValue) (id : SessionId) (p : PeerValue) : Type 0 where
  part : IsPartOf source p.db
  only : (x : SessionValue) → Among x p.sessions → x.id ≡ id

copying : (refuses : Document → Bool) (source : DatabaseValue) (chosen : Choice) (run : SessionId) → LawfulDatabase source → KeptByChanges refuses (of_run source chosen run) (λ p _. Copying source run p)
copying refuses source chosen run law p s c m may h =
    record {
      part = database_kept refuses source chosen run (IsPartOf source) (λ db d o from. put_part source db d o law from) p s c m may h.part;
      only = each-kept (λ x. x.id ≡ run) (λ s t k e. k.id ∙ e) refuses (of_run source chosen run) (λ _ _ _ _ e. e) p s c m may h.only;
    }

module _ (source target : PeerValue) (plan : Plan) (empty : IsEmpty target) where
  -- the session begins at 0
  starts_at_0 : start_between source target plan.chosen ≡ 0
  starts_at_0 = ap (λ ss. start_at (common (source_log source (rep_between source target plan.chosen)) (log_of ss (rep_between source target plan.chosen)))) empty.1

  begun_copying : begins_answer source target plan ≡ Ok tt → Copying source.db plan.session (after_begins source target plan)
  begun_copying ok =
      let new = new_session plan.session (beginning_between source target plan.chosen) plan.at in
      let is : after_begins source target plan ≡ record target { sessions = new ∷ target.sessions } = ap (begun target new) ok in
      subst (Copying source.db plan.session) (sym is) (record {
        part = λ id. subst (λ ds. IsPart (tree_of source.db.docs id) (tree_of ds id)) (sym empty.0) (nothing_is_part (tree_of source.db.docs id));
        only = λ x m. elim (subst (λ ss. Among x (new ∷ ss)) empty.1 m) [ inl here ↦ ap (λ (y : SessionValue). y.id) here | inr there ↦ absurd there ];
      })

-- ---- the end

document_there : (ds : List DocumentValue) (id : Id) (t : TreeValue) → tree_in ds id ≡ Some t → (d : DocumentValue) × Among d ds × (d.id ≡ id) × (d.tree ≡ t)
document_there [] id t h = absurd (none_some t h)
document_there (d ∷ ds) id t h =
    cond_both (bytes_eq d.id id) (Some d.tree) (tree_in ds id) (λ o. o ≡ Some t → (x : DocumentValue) × Among x (d ∷ ds) × (x.id ≡ id) × (x.tree ≡ t))
    (λ same k. (d, inl refl, (bytes_eq-Decides d.id id).0 same, some_is d.tree t k))
    (λ _ k. let later = document_there ds id t k in (later.0, inr later.1, later.2, later.3)) h

-- each leaf of a selected document is covered, if the feed is
pub leaf_covered : (c : Choice) (source : DatabaseValue) (p : PeerValue) → LawfulDatabase source → CoversFeedOf c source p source.update_seq → (id : Id) → is_chosen c id ≡ true → (leaf : RevId) → is_leaf (tree_of source.docs id) leaf ≡ true → covers p id leaf ≡ true
leaf_covered c source p law feed id chosen leaf top = go (tree_in source.docs id) refl top
  where
    go : (o : Option TreeValue) → tree_in source.docs id ≡ o → is_leaf (unwrap_or o no_revisions) leaf ≡ true → covers p id leaf ≡ true
    go None e h = absurd (false≢true (sym (ap is_some (get-empty rev_cmp leaf)) ∙ (and_parts _ _ h).0))
    go (Some t) e h =
        let d = document_there source.docs id t e in
        let within = rises_member 0 (map (λ (x : DocumentValue). x.seq) source.docs) source.update_seq d.0.seq law.rising (Among-mapped (λ (x : DocumentValue). x.seq) d.0 source.docs d.1) in
        let row = in_chosen c source 0 source.update_seq d.0 d.1 (ap (is_chosen c) d.2 ∙ chosen) within.0 within.1 in
        let among : Among leaf (leaves d.0.tree) = among_from leaf (leaves d.0.tree) (is_among-leaves d.0.tree leaf ∙ ap (λ x. is_leaf x leaf) d.3 ∙ h) in
        ap (λ i. covers p i leaf) (sym d.2) ∙ feed (row_of d.0) row leaf among

-- a covered leaf is in its tree, if the ledger is empty
covered_there : (refuses : Document → Bool) (p : PeerValue) (id : SessionId) (s : SessionValue) → LawfulSessions refuses p → ((x : SessionValue) → Among x p.sessions → x.id ≡ id) → session_in p.sessions id ≡ Some s → s.counts.failures ≡ 0
    → (doc : Id) (r : RevId) → covers p doc r ≡ true → has (tree_of p.db.docs doc) r ≡ true
covered_there refuses p id s law only held none doc r h =
    elim (or_cases _ _ h) [
      | inl there ↦ there
      | inr refused ↦
          let found = session_found p.sessions id s held in
          let x = any_member (λ (x : SessionValue). in_ledger x.ledger doc r) p.sessions refused in
          let same : x.0 ≡ s = one_session p.sessions x.0 s law.distinct x.1 found.0 (ap (λ (i : SessionId). i.0) (only x.0 x.1) ∙ sym found.1) in
          let empty : s.ledger ≡ [] = nil_from_length s.ledger (sym (law.sessions s found.0).failures ∙ none) in
          absurd (false≢true (ap (λ l. in_ledger l doc r) (sym (ap (λ (y : SessionValue). y.ledger) same ∙ empty)) ∙ x.2))
    ]

-- a run into an empty target, on one thread or several
pub copied : (refuses : Document → Bool) (source target : PeerValue) (plan : Plan) (p : PeerValue) (report : Report) (now : PeerValue)
    → LawfulDatabase source.db → begins_answer source target plan ≡ Ok tt → Concludes refuses source target plan p report now → IsEmpty target → report.counts.failures ≡ 0 → SameDocuments plan.chosen source.db now.db
copied refuses source target plan p report now law ok ends empty none = same
  where
    all_covered : CoversFrom source now plan.chosen 0
    all_covered = subst (CoversFrom source now plan.chosen) (starts_at_0 source target plan empty) ends.covered

    one : Copying source.db plan.session now
    one = run_keeps refuses source.db plan.chosen plan.session (Copying source.db plan.session) (copying refuses source.db plan.chosen plan.session law) (after_begins source target plan) now ends.grown (begun_copying source target plan empty ok)

    leaf_there : (id : Id) → is_chosen plan.chosen id ≡ true → (leaf : RevId) → is_leaf (tree_of source.db.docs id) leaf ≡ true → has (tree_of now.db.docs id) leaf ≡ true
    leaf_there id chosen leaf top =
        covered_there refuses now plan.session ends.reported.session ends.law one.only ends.reported.held (sym (ap (λ (x : Report). x.counts.failures) ends.reported.is) ∙ none) id leaf
        (leaf_covered plan.chosen source.db now law all_covered id chosen leaf top)

    same : SameDocuments plan.chosen source.db now.db
    same id chosen =
        let is = whole_part (tree_of source.db.docs id) (tree_of now.db.docs id) (tree_lawful source.db law id) (one.part id) (leaf_there id chosen) in
        (is, same_leaves (tree_of source.db.docs id) (tree_of now.db.docs id) is)

pub all-copied : (refuses : Document → Bool) (source target : PeerValue) (plan : Plan) (from : Reading) (read : PeerValue) (result : Result Report TargetFault) (source' target' : PeerValue)
    → Started source target plan from → LawfulDatabase source.db → LawfulSessions refuses from.target → ReadsAll refuses source.db plan from read → Closes source read plan result source' target'
    → IfOk result (λ report. IsEmpty target → report.counts.failures ≡ 0 → SameDocuments plan.chosen source.db target'.db)
all-copied refuses source target plan from read (Err why) source' target' s law lawful reads closes = tt
all-copied refuses source target plan from read (Ok report) source' target' s law lawful reads closes =
    copied refuses source target plan read report target' law s.begun (all-concludes refuses source target plan from read s law lawful reads report source' target' closes)
