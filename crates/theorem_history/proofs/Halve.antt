-- Split and run: an island is split.
use mathlib.Core.Path.{◌≡◌, refl, sym, ◌∙◌, ap, subst}
use mathlib.Core.Logic.{inl, inr, ◌≢◌, ⊎_elim, ◌↔◌}
use mathlib.Core.Bool.{Bool, true, false, not, ◌&&◌, false≢true}
use mathlib.Core.Option.{Option, none, some}
use Prim.Native.Nat.{ℕ}
use Rattle.def_kinds.specs.Choice.{pick}
use Rattle.list_in_table.proofs.Laws.{either}
use Rattle.def_state.specs.Plain.{top}
use Rattle.def_state.specs.World.{Handle, Island, World, island_at, body_island, live}
use Rattle.def_state.specs.Fields.{split_set}
use Rattle.def_state.specs.Split.{split, split_island_now, run_split, run_pending_split}
use Rattle.theorem_split.specs.Graph.{Path, Stands, Own, Whole}
use Rattle.theorem_split.specs.Fine.{Apart, Fine}
use Rattle.theorem_split.specs.Parted.{Parted}
use Rattle.theorem_split.specs.Exact.{SameMembers}
use Rattle.theorem_split.proofs.Homes.{bool, member}
use Rattle.theorem_split.proofs.Paths.{along}
use Rattle.theorem_split.proofs.Split.{some-live, it as live-number}
use Rattle.theorem_split.proofs.Several.{split_parts}
use Rattle.theorem_split.proofs.Exact.{came_from, whole_part, members-of, fine-pending}
use Rattle.theorem_history.specs.Ties.{nothing, splitting, splitting_pending, is_done}
use Rattle.theorem_history.proofs.Change.{count, Same, Halved, Change, same, halved}
use Rattle.theorem_history.proofs.Change.{LinkedIn}
use Rattle.theorem_history.proofs.Keep.{Closed}
use Rattle.theorem_history.proofs.Basic.{same_refl, pending-same}

halve : (i : ℕ) (w v : World) → Apart w → i ≢ top → Parted i w v → Halved i w v
halve i w v A it P =
    record {
      some = it;
      members = members-of i w v A it P;
      stay = P.stay;
      together = P.together;
      kept = P.kept;
      first = P.first;
      second = P.second;
      neither = P.neither;
      from = λ j l s. ⊎_elim (λ o. inl o) (λ o. inr (o.stood, o.first, o.second)) (P.from j l s);
      whole = λ j t a b e ea eb. subst (λ (k : ℕ). Whole v k) ea (whole_part i w v A it P a e) a b ea eb;
      apart = λ a b d e t q. d (came_from i w v A it P b a q e);
      counts =
          λ h d t.
          ap (λ (a : Island). a.constraint_remove_count) (P.other (body_island w h) d (some-live w (body_island w h) (member w (body_island w h) h refl t).listed));
      journal = P.steady.journal;
    }

own-to : {w u : World} → Same w u → (i : ℕ) (a b : Handle) → Own w i a b → Own u i a b
own-to S i a b o =
    record { link = o.link; stands = S.to i o.link o.stands; joins = o.joins; first = S.home a ∙ o.first; second = S.home b ∙ o.second }

path-to : {w u : World} → Same w u → (i : ℕ) {a b : Handle} → Path (Own w i) a b → Path (Own u i) a b
path-to S i p = along (λ (x : Handle). Unit {0}) (λ x y z o. (own-to S i x y o, tt)) tt p

whole_to : {w u : World} → Same w u → (i : ℕ) → Whole w i → Whole u i
whole_to S i W a b ea eb = path-to S i (W a b (sym (S.home a) ∙ ea) (sym (S.home b) ∙ eb))

same_back : {w u : World} → Same w u → Same u w
same_back S =
    record { home = λ h. sym (S.home h); to = S.from; from = S.to; counts = λ j. sym (S.counts j); journal = sym S.journal }

same-halved : (i : ℕ) (w u v : World) → Same w u → Halved i u v → Halved i w v
same-halved i w u v S H =
    record {
      some = H.some;
      members = λ h. ((λ d e. (H.members h).0 d (S.home h ∙ e)), (λ d. (H.members h).1 (λ e. d (sym (S.home h) ∙ e))));
      stay = λ h d. H.stay h (off h d) ∙ S.home h;
      together =
          λ a b ea eb.
          let T = H.together a b (S.home a ∙ ea) (S.home b ∙ eb) in
          ((λ e. path-to (same_back S) i (T.0 e)), (λ p. T.1 (path-to S i p)));
      kept = λ j l d s. H.kept j l d (S.to j l s);
      first = λ l s e. H.first l (S.to i l s) (S.home l.body1 ∙ e);
      second = λ l s d e. H.second l (S.to i l s) (off l.body1 d) (S.home l.body2 ∙ e);
      neither =
          λ l s d e.
          ⊎_elim (λ o. inl (whole_to (same_back S) i o.0, o.1)) (λ o. inr ((λ W. o.0 (whole_to S i W)), o.1))
          (H.neither l (S.to i l s) (off l.body1 d) (off l.body2 e));
      from =
          λ j l s.
          ⊎_elim (λ o. inl (o.0, S.from j l o.1))
          (λ o.
          inr (
            S.from i l o.0,
            (λ e. o.1 (S.home l.body1 ∙ e)),
            (λ d e. o.2 (off l.body1 d) (S.home l.body2 ∙ e)),
          ))
          (H.from j l s);
      whole = λ j t a b e ea eb. H.whole j t a b (S.home a ∙ e) ea eb;
      apart = λ a b d e t q. H.apart a b (off a d) e t (S.home b ∙ q);
      counts =
          λ h d t.
          let c = H.counts h (off h d) (λ z. t (sym (S.home h) ∙ z)) in
          subst (λ (k : ℕ). count v k ≡ count u k) (S.home h) c ∙ S.counts (body_island w h);
      journal = H.journal ∙ S.journal;
    }
  where
    off : (h : Handle) → body_island w h ≢ i → body_island u h ≢ i
    off h d q = d (sym (S.home h) ∙ q)

split-halved : (w : World) → Fine w → (i : ℕ) → live w i ≡ true → Apart (split i w) → Halved i w (split i w)
split-halved w F i l B = halve i w (split i w) F.apart (live-number w F i l) (split_parts w F i l B.small)

pub split-change : (w : World) → Fine w → (i : ℕ) → Apart (split_island_now i w).after → Change (pick (is_done (split_island_now i w)) (splitting i) nothing) w (split_island_now i w).after
unfolding split_island_now
split-change w F i B =
    bool (live w i) (λ l. (let B' : Apart (split i w) = rw l at B in rw l (halved i (split-halved w F i l B')))) (λ l. rw l (same (same_refl w)))

pub run-change : (w : World) → Fine w → Apart (run_pending_split w).after → Change (pick (is_done (run_pending_split w)) (splitting_pending w.split_island) nothing) w (run_pending_split w).after
unfolding run_pending_split
run-change w F B = go w.split_island B
  where
    first-true : (a b : Bool) → a && b ≡ true → a ≡ true
    first-true true b e = refl
    first-true false b e = absurd (false≢true e)

    u : World
    u = split_set w none

    go : (o : Option ℕ) → Apart (run_split o u).after → Change (pick (is_done (run_split o u)) (splitting_pending o) nothing) w (run_split o u).after
    go none B = same (pending-same none w)
    go (some i) B =
        bool (live u i && not (island_at u i).sleeping)
        (λ l.
        let B' : Apart (split i u) = rw l at B in
        rw l (halved i (same-halved i w u (split i u) (pending-same none w) (split-halved u (fine-pending w none F) i (first-true (live u i) _ l) B'))))
        (λ l. rw l (same (pending-same none w)))

-- nobody becomes a member by a split, and nobody stops being one
pub split-members : (w : World) → Fine w → (i : ℕ) → Apart (split_island_now i w).after → SameMembers w (split_island_now i w).after
unfolding split_island_now
split-members w F i B =
    bool (live w i) (λ l. (let B' : Apart (split i w) = rw l at B in rw l (split-halved w F i l B').members))
    (λ l. rw l (λ (h : Handle). ((λ (d : body_island w h ≢ top). d), (λ (d : body_island w h ≢ top). d))))

-- in a closed state a split changes nothing of the links between members
halved-links : (i : ℕ) (w v : World) → Halved i w v → Closed w → (a b : Handle) → LinkedIn w a b ↔ LinkedIn v a b
halved-links i w v H C a b = (to, from)
  where
    -- the first end is a or b
    first-in : (L : LinkedIn w a b) → body_island w L.link.body1 ≢ top
    first-in L = ⊎_elim (λ q z. L.first (ap (body_island w) (sym q.0) ∙ z)) (λ q z. L.second (ap (body_island w) (sym q.0) ∙ z)) L.joins

    to : LinkedIn w a b → LinkedIn v a b
    to L =
        either L.island i
        (λ e.
        let s : Stands w i L.link = subst (λ (k : ℕ). Stands w k L.link) e L.stands in
        let f : body_island w L.link.body1 ≡ i = (C L.island L.link L.stands).0 (first-in L) ∙ e in
        record {
          island = body_island v L.link.body1;
          link = L.link;
          stands = H.first L.link s f;
          joins = L.joins;
          first = (H.members a).1 L.first;
          second = (H.members b).1 L.second;
        })
        (λ d.
        record {
          island = L.island;
          link = L.link;
          stands = H.kept L.island L.link d L.stands;
          joins = L.joins;
          first = (H.members a).1 L.first;
          second = (H.members b).1 L.second;
        })

    from : LinkedIn v a b → LinkedIn w a b
    from L =
        let at : (j : ℕ) × Stands w j L.link =
        ⊎_elim (λ o. (L.island, o.1)) (λ o. (i, o.0)) (H.from L.island L.link L.stands) in
        record {
          island = at.0;
          link = L.link;
          stands = at.1;
          joins = L.joins;
          first = (H.members a).0 L.first;
          second = (H.members b).0 L.second;
        }

pub split-links : (w : World) → Fine w → (i : ℕ) → Apart (split_island_now i w).after → Closed w → (a b : Handle) → LinkedIn w a b ↔ LinkedIn (split_island_now i w).after a b
unfolding split_island_now
split-links w F i B C a b =
    bool (live w i) (λ l. (let B' : Apart (split i w) = rw l at B in rw l (halved-links i w (split i w) (split-halved w F i l B') C a b)))
    (λ l. rw l ((λ (x : LinkedIn w a b). x), (λ (x : LinkedIn w a b). x)))
