-- Two islands become one: what a link does before it is RecordedAfter.
use mathlib.Core.Path.{◌≡◌, refl, sym, ◌∙◌, ap, subst}
use mathlib.Core.Logic.{◌⊎◌, inl, inr, ◌≢◌, ⊎_elim}
use Prim.Native.Nat.{ℕ, ◌+◌, ◌<◌}
use native.Mathlib.Omega.{arith}
use lib.ListN.{length, set, length-set}
use lib.Seq.{get_or-set_same, get_or-set_other}
use lib.Dec.{eqb, ltb, leb}
use borrow.Author.Tests.{eq-eqb, ne_eqb}
use Rattle.def_kinds.specs.Choice.{pick}
use Rattle.list_in_table.proofs.Laws.{either}
use Rattle.def_state.specs.Plain.{top}
use Rattle.def_state.specs.World.{Handle, Island, absent_island, World, island_at, named, body_island}
use Rattle.def_state.specs.Fields.{island_set}
use Rattle.def_state.specs.Membership.{clear_pending_split_of}
use Rattle.def_state.specs.Links.{survivor, add_counts, absorbed, absorb, merge_islands, target, merged}
use Rattle.theorem_split.specs.Graph.{In, Bond, bonds_of, Stands}
use Rattle.theorem_split.specs.Fine.{Apart}
use Rattle.theorem_split.proofs.Member.{none_in, in_left, in_right, in-cases}
use Rattle.theorem_split.proofs.Homes.{bool, in_use, member, at_home, named_table}
use Rattle.theorem_split.proofs.Bonds.{contact-bond, joint-bond, bonds-all}
use Rattle.theorem_history.proofs.Change.{count}

-- w before, u after; h1 and h2 are the ends of the link to come, and `into` its island
pub record Fused (h1 h2 : Handle) (into : ℕ) (w u : World) : Type 0 where
  pub in_use : into < length u.islands
  pub new : ℕ → ℕ
  pub new_top : new top ≡ top
  pub new_some : (j : ℕ) → j ≢ top → new j ≢ top
  pub home : (k : Handle) → body_island u k ≡ new (body_island w k)
  pub first : body_island w h1 ≢ top → new (body_island w h1) ≡ into
  pub second : body_island w h2 ≢ top → new (body_island w h2) ≡ into
  pub to : (j : ℕ) (k : Bond) → Stands w j k → Stands u (new j) k
  pub from : (j : ℕ) (k : Bond) → Stands u j k → (i : ℕ) × (new i ≡ j) × Stands w i k
  pub counts : (j : ℕ) → j ≢ top → count u (new j) ≡ 0 → count w j ≡ 0
  pub glue : (i j : ℕ) → i ≢ top → j ≢ top → new i ≡ new j
      → (i ≡ j) ⊎ (((i ≡ body_island w h1) × (j ≡ body_island w h2)) ⊎ ((i ≡ body_island w h2) × (j ≡ body_island w h1)))
  pub journal : u.removal_journal ≡ w.removal_journal
  pub apart : Apart u

-- no island changes
stay : (h1 h2 : Handle) (w : World) → Apart w → (into : ℕ) → into < length w.islands → (body_island w h1 ≢ top → body_island w h1 ≡ into)
    → (body_island w h2 ≢ top → body_island w h2 ≡ into)
    → Fused h1 h2 into w w
stay h1 h2 w A into l f s =
    record {
      in_use = l;
      new = λ j. j;
      new_top = refl;
      new_some = λ j d. d;
      home = λ k. refl;
      first = f;
      second = s;
      to = λ j k m. m;
      from = λ j k m. (j, refl, m);
      counts = λ j d c. c;
      glue = λ i j a b e. inl e;
      journal = refl;
      apart = A;
    }

counts_zero : (x y : ℕ) → add_counts x y ≡ 0 → (x ≡ 0) × (y ≡ 0)
unfolding add_counts
counts_zero x y e = bool (ltb top (x + y)) (λ q. absurd (let z : top ≡ 0 = rw q at e in omega arith)) (λ q. (let z : x + y ≡ 0 = rw q at e in (omega arith, omega arith)))

-- small becomes part of big
module _ (w : World) (A : Apart w) (big small : ℕ) (bl : big < length w.islands) (sl : small < length w.islands) (d : big ≢ small) where
  abbrev u : World
  u = absorb big small w

  abbrev P : Island
  P = absorbed (island_at w big) (island_at w small)

  long : length (absorb big small w).islands ≡ length w.islands
  unfolding absorb island_set clear_pending_split_of
  long = length-set (set w.islands big P) small absent_island ∙ length-set w.islands big P

  at-big : island_at (absorb big small w) big ≡ absorbed (island_at w big) (island_at w small)
  unfolding absorb island_set clear_pending_split_of
  at-big = get_or-set_other (set w.islands big P) small big absent_island absent_island d ∙ get_or-set_same w.islands big P absent_island bl

  at_small : island_at (absorb big small w) small ≡ absent_island
  unfolding absorb island_set clear_pending_split_of
  at_small = get_or-set_same (set w.islands big P) small absent_island absent_island (rw (length-set w.islands big P) sl)

  at_other : (j : ℕ) → j ≢ big → j ≢ small → island_at (absorb big small w) j ≡ island_at w j
  unfolding absorb island_set clear_pending_split_of
  at_other j p q = get_or-set_other (set w.islands big P) small j absent_island absent_island q ∙ get_or-set_other w.islands big j P absent_island p

  table : (absorb big small w).bodies ≡ w.bodies
  unfolding absorb island_set clear_pending_split_of
  table = refl

  journal : (absorb big small w).removal_journal ≡ w.removal_journal
  unfolding absorb island_set clear_pending_split_of
  journal = refl

  abbrev new : ℕ → ℕ
  new j = pick (eqb j small) big j

  new-small : (j : ℕ) → j ≡ small → new j ≡ big
  new-small j e = rw (eq-eqb j small e)

  new-other : (j : ℕ) → j ≢ small → new j ≡ j
  new-other j o = rw (ne_eqb j small o)

  top_small : top ≢ small
  top_small e = let a = A.small in omega arith

  -- a list of bodies, out and in
  origin : (i s : ℕ) → In s (island_at u i).bodies → (j : ℕ) × (new j ≡ i) × In s (island_at w j).bodies
  origin i s m =
      either i small (λ e. absurd (none_in (subst (λ (a : Island). In s a.bodies) at_small (subst (λ (k : ℕ). In s (island_at u k).bodies) e m))))
      (λ o.
      either i big
      (λ e.
      ⊎_elim (λ q. (big, new-other big d ∙ sym e, q)) (λ q. (small, new-small small refl ∙ sym e, q))
      (in-cases (island_at w big).bodies (subst (λ (a : Island). In s a.bodies) at-big (subst (λ (k : ℕ). In s (island_at u k).bodies) e m))))
      (λ e. (i, new-other i o, subst (λ (a : Island). In s a.bodies) (at_other i e o) m)))

  lands : (j s : ℕ) → In s (island_at w j).bodies → In s (island_at u (new j)).bodies
  lands j s m =
      either j small
      (λ e.
      subst (λ (k : ℕ). In s (island_at u k).bodies) (sym (new-small j e))
      (subst (λ (a : Island). In s a.bodies) (sym at-big) (in_right (island_at w big).bodies (subst (λ (k : ℕ). In s (island_at w k).bodies) e m))))
      (λ o.
      subst (λ (k : ℕ). In s (island_at u k).bodies) (sym (new-other j o))
      (either j big
      (λ e.
      subst (λ (k : ℕ). In s (island_at u k).bodies) (sym e)
      (subst (λ (a : Island). In s a.bodies) (sym at-big) (in_left (island_at w small).bodies (subst (λ (k : ℕ). In s (island_at w k).bodies) e m))))
      (λ e. subst (λ (a : Island). In s a.bodies) (sym (at_other j e o)) m)))

  apart : Apart (absorb big small w)
  apart =
      record {
        small = rw long A.small;
        once =
            λ i j s a b.
            let x = origin i s a in
            let y = origin j s b in
            sym x.1 ∙ ap new (A.once x.0 y.0 s x.2 y.2) ∙ y.1;
      }

  name : (k : Handle) → named u k ≡ named w k
  name = named_table w u table

  new_top : new top ≡ top
  new_top = new-other top top_small

  new_some : (j : ℕ) → j ≢ top → new j ≢ top
  new_some j o e =
      either j small (λ q. (let z : big ≡ top = sym (new-small j q) ∙ e in let a = A.small in omega arith)) (λ q. o (sym (new-other j q) ∙ e))

  home : (k : Handle) → body_island u k ≡ new (body_island w k)
  home k =
      either (body_island w k) top
      (λ e.
      (either (body_island u k) top (λ q. q)
      (λ q.
      absurd
      (let m = member u (body_island u k) k refl q in
      let x = origin (body_island u k) k.slot m.listed in
      let z : x.0 ≡ top = sym (at_home w A x.0 k (record { named_is = sym (name k) ∙ m.named_is; listed = x.2 })) ∙ e in
      q (sym x.1 ∙ ap new z ∙ new_top))))
      ∙ sym (ap new e ∙ new_top))
      (λ o.
      let m = member w (body_island w k) k refl o in
      at_home u apart (new (body_island w k)) k (record { named_is = name k ∙ m.named_is; listed = lands (body_island w k) k.slot m.listed }))

  -- links, out and in
  bond-big : (l : Bond) → Stands w big l → Stands u big l
  bond-big l s =
      subst (λ (a : Island). In l (bonds_of a)) (sym at-big)
      (bonds-all (island_at w big) (λ (b : Bond). In b (bonds_of P)) (λ c m. contact-bond P c (in_left (island_at w small).contact_links m))
      (λ c m. joint-bond P c (in_left (island_at w small).joint_links m))
      l
      s)

  bond-small : (l : Bond) → Stands w small l → Stands u big l
  bond-small l s =
      subst (λ (a : Island). In l (bonds_of a)) (sym at-big)
      (bonds-all (island_at w small) (λ (b : Bond). In b (bonds_of P)) (λ c m. contact-bond P c (in_right (island_at w big).contact_links m))
      (λ c m. joint-bond P c (in_right (island_at w big).joint_links m))
      l
      s)

  bond-to : (j : ℕ) (l : Bond) → Stands w j l → Stands u (new j) l
  bond-to j l s =
      either j small (λ e. subst (λ (k : ℕ). Stands u k l) (sym (new-small j e)) (bond-small l (subst (λ (k : ℕ). Stands w k l) e s)))
      (λ o.
      subst (λ (k : ℕ). Stands u k l) (sym (new-other j o))
      (either j big (λ e. subst (λ (k : ℕ). Stands u k l) (sym e) (bond-big l (subst (λ (k : ℕ). Stands w k l) e s)))
      (λ e. subst (λ (a : Island). In l (bonds_of a)) (sym (at_other j e o)) s)))

  bond-from : (j : ℕ) (l : Bond) → Stands u j l → (i : ℕ) × (new i ≡ j) × Stands w i l
  bond-from j l s =
      either j small (λ e. absurd (none_in (subst (λ (a : Island). In l (bonds_of a)) at_small (subst (λ (k : ℕ). Stands u k l) e s))))
      (λ o.
      either j big
      (λ e.
      ⊎_elim (λ q. (big, new-other big d ∙ sym e, q)) (λ q. (small, new-small small refl ∙ sym e, q))
      (bonds-all P (λ (b : Bond). Stands w big b ⊎ Stands w small b)
      (λ c m.
      ⊎_elim (λ q. inl (contact-bond (island_at w big) c q)) (λ q. inr (contact-bond (island_at w small) c q)) (in-cases (island_at w big).contact_links m))
      (λ c m.
      ⊎_elim (λ q. inl (joint-bond (island_at w big) c q)) (λ q. inr (joint-bond (island_at w small) c q)) (in-cases (island_at w big).joint_links m))
      l
      (subst (λ (a : Island). In l (bonds_of a)) at-big (subst (λ (k : ℕ). Stands u k l) e s))))
      (λ e. (j, new-other j o, subst (λ (a : Island). In l (bonds_of a)) (at_other j e o) s)))

  counted : (j : ℕ) → count u (new j) ≡ 0 → count w j ≡ 0
  counted j c =
      let both : count u big ≡ 0 → (count w big ≡ 0) × (count w small ≡ 0) =
      λ q.
      counts_zero (island_at w big).constraint_remove_count (island_at w small).constraint_remove_count (sym (ap (λ (a : Island). a.constraint_remove_count) at-big) ∙ q) in
      either j small (λ e. ap (count w) e ∙ (both (ap (count u) (sym (new-small j e)) ∙ c)).1)
      (λ o.
      let c' : count u j ≡ 0 = ap (count u) (sym (new-other j o)) ∙ c in
      either j big (λ e. ap (count w) e ∙ (both (ap (count u) (sym e) ∙ c')).0)
      (λ e. sym (ap (λ (a : Island). a.constraint_remove_count) (at_other j e o)) ∙ c'))

  glued : (i j : ℕ) → new i ≡ new j → (i ≡ j) ⊎ (((i ≡ big) × (j ≡ small)) ⊎ ((i ≡ small) × (j ≡ big)))
  glued i j e =
      either i small
      (λ p.
      either j small (λ q. inl (p ∙ sym q)) (λ q. inr (inr (p, sym (new-other j q) ∙ sym e ∙ new-small i p))))
      (λ p.
      either j small (λ q. inr (inl (sym (new-other i p) ∙ e ∙ new-small j q, q))) (λ q. inl (sym (new-other i p) ∙ e ∙ new-other j q)))

  fuse : (h1 h2 : Handle) → (((body_island w h1 ≡ big) × (body_island w h2 ≡ small)) ⊎ ((body_island w h1 ≡ small) × (body_island w h2 ≡ big))) → Fused h1 h2 big w (absorb big small w)
  fuse h1 h2 o =
      record {
        in_use = rw long bl;
        new = new;
        new_top = new_top;
        new_some = new_some;
        home = home;
        first = λ q. ⊎_elim (λ e. ap new e.0 ∙ new-other big d) (λ e. ap new e.0 ∙ new-small small refl) o;
        second = λ q. ⊎_elim (λ e. ap new e.1 ∙ new-small small refl) (λ e. ap new e.1 ∙ new-other big d) o;
        to = bond-to;
        from = bond-from;
        counts = λ j q c. counted j c;
        glue =
            λ i j a b e.
            ⊎_elim (λ q. inl q)
            (λ q.
            inr
            (⊎_elim
            (λ x.
            ⊎_elim (λ y. inl (x.0 ∙ sym y.0, x.1 ∙ sym y.1)) (λ y. inr (x.0 ∙ sym y.1, x.1 ∙ sym y.0)) o)
            (λ x.
            ⊎_elim (λ y. inr (x.0 ∙ sym y.1, x.1 ∙ sym y.0)) (λ y. inl (x.0 ∙ sym y.0, x.1 ∙ sym y.1)) o)
            q))
            (glued i j e);
        journal = journal;
        apart = apart;
      }

-- ---- the state with the islands of both ends merged, and the island that the link goes to

used : (w : World) (h : Handle) (i : ℕ) → body_island w h ≡ i → i ≢ top → i < length w.islands
used w h i e d = Rattle.theorem_split.proofs.Homes.in_use w i (member w i h e d).listed

into-is : (w : World) (a b : ℕ) → (survivor w a b ≡ a) ⊎ (survivor w a b ≡ b)
unfolding survivor
into-is w a b = bool (leb (length (island_at w b).bodies) (length (island_at w a).bodies)) (λ e. inl (rw e)) (λ e. inr (rw e))

pub merged-fused : (w : World) → Apart w → (h1 h2 : Handle) → target w h1 h2 ≢ top → Fused h1 h2 (target w h1 h2) w (merged h1 h2 w)
unfolding target merged merge_islands
merged-fused w A h1 h2 t =
    either a top
    (λ p.
    let e : target w h1 h2 ≡ b = rw (eq-eqb a top p) in
    let tb : b ≢ top = λ q. t (e ∙ q) in
    rw (eq-eqb a top p) (stay h1 h2 w A b (used w h2 b refl tb) (λ q. absurd (q p)) (λ q. refl)))
    (λ p.
    either b top
    (λ q. rw (ne_eqb a top p, eq-eqb b top q) (stay h1 h2 w A a (used w h1 a refl p) (λ o. refl) (λ o. absurd (o q))))
    (λ q.
    rw (ne_eqb a top p, ne_eqb b top q)
    (either a b
    (λ o.
    let s : a ≡ survivor w a b = ⊎_elim (λ z. sym z) (λ z. o ∙ sym z) (into-is w a b) in
    rw (eq-eqb a b o)
    (stay h1 h2 w A (survivor w a b) (subst (λ (k : ℕ). k < length w.islands) s (used w h1 a refl p)) (λ z. s) (λ z. sym o ∙ s)))
    (λ o.
    rw (ne_eqb a b o)
    (⊎_elim
    (λ z.
    rw (eq-eqb (survivor w a b) a z)
    (subst (λ (k : ℕ). Fused h1 h2 k w (absorb a b w)) (sym z) (fuse w A a b (used w h1 a refl p) (used w h2 b refl q) o h1 h2 (inl (refl, refl)))))
    (λ z.
    rw (ne_eqb (survivor w a b) a (λ y. o (sym y ∙ z)))
    (subst (λ (k : ℕ). Fused h1 h2 k w (absorb b a w)) (sym z)
    (fuse w A b a (used w h2 b refl q) (used w h1 a refl p) (λ y. o (sym y)) h1 h2 (inr (refl, refl)))))
    (into-is w a b))))))
  where
    a : ℕ
    a = body_island w h1

    b : ℕ
    b = body_island w h2
