-- What is RecordedAfter by the calls is what the lists hold: every change keeps that.
use mathlib.Core.Path.{sym, ◌∙◌, ap, subst}
use mathlib.Core.Logic.{inl, inr, ⊎_elim, ◌↔◌}
use Prim.Native.Nat.{ℕ}
use Rattle.list_in_table.proofs.Laws.{either}
use Rattle.def_state.specs.World.{World, body_island}
use Rattle.theorem_split.specs.Graph.{Bond, Stands}
use Rattle.theorem_split.proofs.Member.{none_in}
use Rattle.theorem_history.specs.Ties.{Event, RecordedAfter}
use Rattle.theorem_history.proofs.Change.{Change, same, still, entered, left, linked, dropped, renamed, resolved, halved, fresh}

-- some island holds the link
abbrev pub Somewhere : World → Bond → Type 0
Somewhere w l = (j : ℕ) × Stands w j l

module _ (w v : World) (R : Bond → Type 0) (K : (l : Bond) → R l ↔ Somewhere w l) where
  -- where every list holds what it held
  both : ((j : ℕ) (l : Bond) → Stands w j l → Stands v j l) → ((j : ℕ) (l : Bond) → Stands v j l → Stands w j l) → (l : Bond) → R l ↔ Somewhere v l
  both to from l = (
    (λ r. (let s = (K l).0 r in (s.0, to s.0 l s.1))),
    (λ s. (K l).1 (s.0, from s.0 l s.1)),
  )

  pub keep-recorded : {e : Event} → Change e w v → (l : Bond) → RecordedAfter e w R l ↔ Somewhere v l
  keep-recorded (same S) = both S.to S.from
  keep-recorded (still x n S) = λ l. (
    (λ r. (both S.to S.from l).0 r.0),
    (λ s. ((both S.to S.from l).1 s, λ d. n l d.1)),
  )
  keep-recorded (entered x n E) = both E.to E.from
  keep-recorded (left x E) = λ l. (
    (λ r.
        let s = (K l).0 r.0 in
        (s.0, ⊎_elim (λ o. o) (λ o. absurd (r.1 (o.1, subst (λ (j : ℕ). Stands w j l) o.0 s.1))) (E.to s.0 l s.1))),
    (λ s. ((K l).1 (s.0, E.from s.0 l s.1), λ d. E.gone d.0 s.0 l d.1 s.1)),
  )
  keep-recorded (linked {l = k} E) = λ l. (
    (⊎_elim (λ r. (let s = (K l).0 r in (E.new s.0, E.to s.0 l s.1))) (λ q. (E.into, subst (λ (b : Bond). Stands v E.into b) (sym q) E.stands))),
    (λ s. ⊎_elim (λ o. inl ((K l).1 (o.0, o.2))) (λ o. inr o.0) (E.from s.0 l s.1)),
  )
  keep-recorded (dropped E) = λ l. (
    (λ r.
        let s = (K l).0 r.0 in
        (s.0, ⊎_elim (λ o. o) (λ o. absurd (r.1 (ap (λ (b : Bond). b.name) o ∙ E.named))) (E.to s.0 l s.1))),
    (λ s. ((K l).1 (s.0, E.from s.0 l s.1), E.gone s.0 l s.1)),
  )
  keep-recorded (renamed {r} {k} E) = λ l. (
    (λ o.
        let s = (K o.0).0 o.1 in
        (s.0, subst (λ (b : Bond). Stands v s.0 b) (sym o.2) (E.to s.0 o.0 s.1))),
    (λ s. (let o = E.from s.0 l s.1 in (o.0, (K o.0).1 (s.0, o.1), o.2))),
  )
  keep-recorded (resolved E) = both E.to E.from
  keep-recorded (halved i E) = λ l. (
    (λ r.
        let s = (K l).0 r.0 in
        either s.0 i
        (λ q.
        let m : Stands w i l = subst (λ (j : ℕ). Stands w j l) q s.1 in
        either (body_island w l.body1) i (λ e. (body_island v l.body1, E.first l m e))
        (λ d.
        either (body_island w l.body2) i (λ e. (body_island v l.body2, E.second l m d e))
        (λ e. ⊎_elim (λ o. (i, o.1)) (λ o. absurd (r.1 (o.0, m, d, e))) (E.neither l m d e))))
        (λ d. (s.0, E.kept s.0 l d s.1))),
    (λ s. (
      (K l).1 (⊎_elim (λ o. (s.0, o.1)) (λ o. (i, o.0)) (E.from s.0 l s.1)),
      (λ d. ⊎_elim (λ o. d.0 o.0) (λ o. o.1 s.0 s.1) (E.neither l d.1 d.2 d.3)),
    )),
  )
  keep-recorded (fresh e) = λ l. ((λ r. absurd r), (λ s. none_in (subst (λ (x : World). Stands x s.0 l) e s.1)))
