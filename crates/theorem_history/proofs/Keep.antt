-- Three things that every change keeps: ties, connection of uncounted islands, and in clean histories that a link's members are in its island.
use mathlib.Core.Path.{◌≡◌, refl, sym, ◌∙◌, ap, subst}
use mathlib.Core.Logic.{◌⊎◌, inl, inr, ◌≢◌, ⊎_elim}
use Prim.Native.Nat.{ℕ}
use Rattle.list_in_table.proofs.Laws.{either}
use Rattle.def_state.specs.Plain.{top}
use Rattle.def_state.specs.World.{Handle, World, body_island}
use Rattle.theorem_split.specs.Graph.{Bond, Stands}
use Rattle.theorem_split.proofs.Member.{none_in}
use Rattle.theorem_split.proofs.Homes.{handle-same}
use Rattle.theorem_split.proofs.Paths.{one-step}
use Rattle.theorem_history.specs.Ties.{Event, TiedAfter}
use Rattle.theorem_history.proofs.Change.{EntersIn}
use Rattle.theorem_history.proofs.Change.{Same, Halved, Change, same, still, entered, left, linked, dropped, renamed, resolved, halved, fresh}

pub handle-either : {A : Type 0} (a b : Handle) → (a ≡ b → A) → ((a ≡ b → ⊥) → A) → A
handle-either a b f g =
    either a.slot b.slot
    (λ p. either a.generation b.generation (λ q. f (handle-same a b p q)) (λ q. g (λ e. q (ap (λ (h : Handle). h.generation) e))))
    (λ p. g (λ e. p (ap (λ (h : Handle). h.slot) e)))

-- ---- ties

-- the link l stands in the island of both its ends
pub record Held (w : World) (l : Bond) : Type 0 where
  pub island : ℕ
  pub some : island ≢ top
  pub stands : Stands w island l
  pub first : body_island w l.body1 ≡ island
  pub second : body_island w l.body2 ≡ island

module _ {w v : World} (T : Bond → Type 0) (K : (l : Bond) → T l → Held w l) where
  same-tie : Same w v → (l : Bond) → Held w l → Held v l
  same-tie S l h =
      record { island = h.island; some = h.some; stands = S.to h.island l h.stands; first = S.home l.body1 ∙ h.first; second = S.home l.body2 ∙ h.second }

  pub keep-ties : {e : Event} → Change e w v → (l : Bond) → TiedAfter e w v T l → Held v l
  keep-ties (same S) l t = same-tie S l (K l t.0)
  keep-ties (still x n S) l t = same-tie S l (K l t.0)
  keep-ties (entered x n E) l t =
      let h = K l t.0 in
      let other : (k : Handle) → body_island w k ≡ h.island → body_island v k ≡ h.island =
      λ k e. E.others k (λ q. h.some (sym e ∙ ap (body_island w) q ∙ E.out)) ∙ e in
      record { island = h.island; some = h.some; stands = E.to h.island l h.stands; first = other l.body1 h.first; second = other l.body2 h.second }
  keep-ties (left x E) l t =
      let h = K l t.0 in
      let f : body_island v l.body1 ≡ h.island = E.others l.body1 (λ q. t.1.0 (ap (body_island v) q ∙ E.out)) ∙ h.first in
      let s : body_island v l.body2 ≡ h.island = E.others l.body2 (λ q. t.1.1 (ap (body_island v) q ∙ E.out)) ∙ h.second in
      record {
        island = h.island;
        some = h.some;
        stands = ⊎_elim (λ a. a) (λ a. absurd (t.1.0 (ap (body_island v) (a.1 l.body1 (h.first ∙ a.0)) ∙ E.out))) (E.to h.island l h.stands);
        first = f;
        second = s;
      }
  keep-ties (linked {l = k} E) l (inl t) =
      let h = K l t.0 in
      record {
        island = E.new h.island;
        some = E.new_some h.island h.some;
        stands = E.to h.island l h.stands;
        first = E.home l.body1 ∙ ap E.new h.first;
        second = E.home l.body2 ∙ ap E.new h.second;
      }
  keep-ties (linked {l = k} E) l (inr t) =
      let b1 : body_island w k.body1 ≢ top = subst (λ (x : Bond). body_island w x.body1 ≢ top) t.0 t.1.0 in
      let b2 : body_island w k.body2 ≢ top = subst (λ (x : Bond). body_island w x.body2 ≢ top) t.0 t.1.1 in
      subst (λ (x : Bond). Held v x) (sym t.0)
      (record {
        island = E.into;
        some = E.in_some;
        stands = E.stands;
        first = E.home k.body1 ∙ E.first b1;
        second = E.home k.body2 ∙ E.second b2;
      })
  keep-ties (dropped E) l t =
      let h = K l t.0 in
      record {
        island = h.island;
        some = h.some;
        stands = ⊎_elim (λ a. a) (λ a. absurd (t.1 (ap (λ (x : Bond). x.name) a ∙ E.named))) (E.to h.island l h.stands);
        first = E.home l.body1 ∙ h.first;
        second = E.home l.body2 ∙ h.second;
      }
  keep-ties (renamed {r} {k} E) l t =
      let h = K t.0 t.1 in
      subst (λ (x : Bond). Held v x) (sym t.2)
      (record {
        island = h.island;
        some = h.some;
        stands = E.to h.island t.0 h.stands;
        first = E.home t.0.body1 ∙ h.first;
        second = E.home t.0.body2 ∙ h.second;
      })
  keep-ties (resolved E) l t =
      let h = K l t.0 in
      record { island = h.island; some = h.some; stands = E.to h.island l h.stands; first = E.home l.body1 ∙ h.first; second = E.home l.body2 ∙ h.second }
  keep-ties (halved i E) l t =
      let h = K l t.0 in
      either h.island i
      (λ q.
      let f : body_island w l.body1 ≡ i = h.first ∙ q in
      let s : body_island w l.body2 ≡ i = h.second ∙ q in
      let S : Stands w i l = subst (λ (k : ℕ). Stands w k l) q h.stands in
      record {
        island = body_island v l.body1;
        some = (E.members l.body1).1 (λ z. E.some (sym f ∙ z));
        stands = E.first l S f;
        first = refl;
        second = sym ((E.together l.body1 l.body2 f s).1 (one-step (record { link = l; stands = S; joins = inl (refl, refl); first = f; second = s })));
      })
      (λ d.
      record {
        island = h.island;
        some = h.some;
        stands = E.kept h.island l d h.stands;
        first = E.stay l.body1 (λ q. d (sym h.first ∙ q)) ∙ h.first;
        second = E.stay l.body2 (λ q. d (sym h.second ∙ q)) ∙ h.second;
      })
  keep-ties (fresh e) l t = absurd t

-- ---- in a clean history

-- an end of a link that is a member is a member of the link's island
abbrev pub Closed : World → Type 0
Closed w = (j : ℕ) (l : Bond) → Stands w j l → (body_island w l.body1 ≢ top → body_island w l.body1 ≡ j) × (body_island w l.body2 ≢ top → body_island w l.body2 ≡ j)

-- the same of one end
both_ends : (w v : World) (j : ℕ) (l : Bond) → ((h : Handle) → (body_island w h ≢ top → body_island w h ≡ j) → ((l.body1 ≡ h) ⊎ (l.body2 ≡ h)) → body_island v h ≢ top → body_island v h ≡ j)
    → (body_island w l.body1 ≢ top → body_island w l.body1 ≡ j) × (body_island w l.body2 ≢ top → body_island w l.body2 ≡ j)
    → (body_island v l.body1 ≢ top → body_island v l.body1 ≡ j) × (body_island v l.body2 ≢ top → body_island v l.body2 ≡ j)
both_ends w v j l f p = (f l.body1 p.0 (inl refl), f l.body2 p.1 (inr refl))

-- where a body is where it was
kept_home : (w v : World) (j : ℕ) (h : Handle) → body_island v h ≡ body_island w h → (body_island w h ≢ top → body_island w h ≡ j) → body_island v h ≢ top → body_island v h ≡ j
kept_home w v j h e f d = e ∙ f (λ q. d (e ∙ q))

module _ {w v : World} (N : EntersIn w v) (C : Closed w) where
  pub keep-closed : {e : Event} → Change e w v → Closed v
  keep-closed (same S) j l s = both_ends w v j l (λ h f o. kept_home w v j h (S.home h) f) (C j l (S.from j l s))
  keep-closed (still x n S) j l s = both_ends w v j l (λ h f o. kept_home w v j h (S.home h) f) (C j l (S.from j l s))
  keep-closed (entered x n E) j l s =
      both_ends w v j l
      (λ h f o d.
      handle-either h x
      (λ q.
      let u = N x E.out (λ z. E.some (sym E.new ∙ z)) j l (E.from j l s) in
      absurd (⊎_elim (λ p. u.0 (p ∙ q)) (λ p. u.1 (p ∙ q)) o))
      (λ q. kept_home w v j h (E.others h q) f d))
      (C j l (E.from j l s))
  keep-closed (left x E) j l s =
      both_ends w v j l
      (λ h f o d.
      handle-either h x (λ q. absurd (d (ap (body_island v) q ∙ E.out))) (λ q. kept_home w v j h (E.others h q) f d))
      (C j l (E.from j l s))
  keep-closed (linked {l = k} E) j l s =
      let member : (h : Handle) → body_island v h ≢ top → body_island w h ≢ top = λ h d q. d (E.home h ∙ ap E.new q ∙ E.new_top) in
      ⊎_elim
      (λ o.
      let c = C o.0 l o.2 in
      ((λ d. E.home l.body1 ∙ ap E.new (c.0 (member l.body1 d)) ∙ o.1), (λ d. E.home l.body2 ∙ ap E.new (c.1 (member l.body2 d)) ∙ o.1)))
      (λ o. (
        (λ d.
            let e : body_island v l.body1 ≡ body_island v k.body1 = ap (λ (x : Bond). body_island v x.body1) o.0 in
            e ∙ E.home k.body1 ∙ E.first (member k.body1 (λ q. d (e ∙ q))) ∙ sym o.1),
        (λ d.
            let e : body_island v l.body2 ≡ body_island v k.body2 = ap (λ (x : Bond). body_island v x.body2) o.0 in
            e ∙ E.home k.body2 ∙ E.second (member k.body2 (λ q. d (e ∙ q))) ∙ sym o.1),
      ))
      (E.from j l s)
  keep-closed (dropped E) j l s = both_ends w v j l (λ h f o. kept_home w v j h (E.home h) f) (C j l (E.from j l s))
  keep-closed (renamed E) j l s =
      let o = E.from j l s in
      let c = C j o.0 o.1 in (
        (λ d. kept_home w v j l.body1 (E.home l.body1) (subst (λ (h : Handle). body_island w h ≢ top → body_island w h ≡ j) (sym (ap (λ (b : Bond). b.body1) o.2)) c.0) d),
        (λ d. kept_home w v j l.body2 (E.home l.body2) (subst (λ (h : Handle). body_island w h ≢ top → body_island w h ≡ j) (sym (ap (λ (b : Bond). b.body2) o.2)) c.1) d),
      )
  keep-closed (resolved E) j l s = both_ends w v j l (λ h f o. kept_home w v j h (E.home h) f) (C j l (E.from j l s))
  keep-closed (halved i E) j l s = keep-halved i E j l s
    where
      keep-halved : (i : ℕ) → Halved i w v → Closed v
      keep-halved i E j l s =
          ⊎_elim
          (λ o.
          let c = C j l o.1 in
          let at : (h : Handle) → (body_island w h ≢ top → body_island w h ≡ j) → body_island v h ≢ top → body_island v h ≡ j =
          λ h f d.
          (let m : body_island w h ≢ top = (E.members h).0 d in
          E.stay h (λ q. o.0 (sym (f m) ∙ q)) ∙ f m) in
          (at l.body1 c.0, at l.body2 c.1))
          (λ o.
          let c = C i l o.0 in
          let one : body_island v l.body1 ≢ top → body_island w l.body1 ≡ i = λ d. c.0 ((E.members l.body1).0 d) in
          let two : body_island v l.body2 ≢ top → body_island w l.body2 ≡ i = λ d. c.1 ((E.members l.body2).0 d) in (
            (λ d. o.1 (one d)),
            (λ d.
                let s2 = two d in
                either (body_island w l.body1) i
                (λ f.
                sym ((E.together l.body1 l.body2 f s2).1 (one-step (record { link = l; stands = o.0; joins = inl (refl, refl); first = f; second = s2 })))
                ∙ o.1 f)
                (λ f. o.2 f s2)),
          ))
          (E.from j l s)
  keep-closed (fresh e) j l s = absurd (none_in (subst (λ (x : World). Stands x j l) e s))
