-- An island that is not counted is connected by its own links and the journal's entries between two of its bodies: every change keeps that.
use mathlib.Core.Path.{◌≡◌, refl, sym, ◌∙◌, ap, subst}
use mathlib.Core.Logic.{◌⊎◌, inl, inr, ◌≢◌, ⊎_elim}
use mathlib.Core.Bool.{Bool, true, false}
use mathlib.Core.List.{List}
use Prim.Native.Nat.{ℕ}
use Rattle.def_kinds.specs.Choice.{pick}
use Rattle.list_in_table.proofs.Laws.{either}
use Rattle.def_state.specs.Plain.{top}
use Rattle.def_state.specs.World.{Handle, Removal, World, empty_world, named, island_below, island_of, body_island}
use Rattle.theorem_split.specs.Graph.{In, Path, stop, step, Bond, Stands, Joins, Own}
use Rattle.theorem_split.proofs.Paths.{then, one-step, along}
use Rattle.theorem_history.specs.Ties.{Event, new_bond}
use Rattle.theorem_history.proofs.Change.{count, Entered, Left, Made, entry_of, Resolved, Halved, Change, same, still, entered, left, linked, dropped, renamed, resolved, halved, fresh}
use Rattle.theorem_history.proofs.Keep.{handle-either}

-- nobody is a member after a reset
pub empty-home : (a : Handle) → body_island empty_world a ≡ top
unfolding body_island island_of island_below
empty-home a = go (named empty_world a)
  where
    go : (b : Bool) → pick b top top ≡ top
    go true = refl
    go false = refl

-- an entry of the journal names a and b, both of them bodies of j
pub record Entry (w : World) (j : ℕ) (a b : Handle) : Type 0 where
  pub entry : Removal
  pub listed : In entry w.removal_journal
  pub joins : ((entry.body1 ≡ a) × (entry.body2 ≡ b)) ⊎ ((entry.body1 ≡ b) × (entry.body2 ≡ a))
  pub first : body_island w a ≡ j
  pub second : body_island w b ≡ j

abbrev pub Near : World → ℕ → Handle → Handle → Type 0
Near w j a b = Own w j a b ⊎ Entry w j a b

abbrev pub Joined : World → Type 0
Joined w = (j : ℕ) → j ≢ top → count w j ≡ 0 → (a b : Handle) → body_island w a ≡ j → body_island w b ≡ j → Path (Near w j) a b

-- steps of R are paths of S
pub expand : {A : Type 0} {R S : A → A → Type 0} (P : A → Type 0) → ((a b : A) → P a → R a b → Path S a b × P b) → {a b : A} → P a → Path R a b → Path S a b
expand P f p stop = stop
expand P f {a} p (step {b = b} r q) = let h = f a b p r in then h.0 (expand P f h.1 q)

-- bodies of i are in j now; its links stand in j, or join a body to itself, or are in the journal; entries are kept
module _ (w v : World) (i j : ℕ) (home : (h : Handle) → body_island w h ≡ i → body_island v h ≡ j)
    (links : (l : Bond) → Stands w i l → body_island w l.body1 ≡ i → Stands v j l ⊎ ((l.body1 ≡ l.body2) ⊎ In (entry_of l) v.removal_journal))
    (entries : (e : Removal) → In e w.removal_journal → In e v.removal_journal)
  where
    first-in : (a b : Handle) (o : Own w i a b) → body_island w o.link.body1 ≡ i
    first-in a b o = ⊎_elim (λ q. ap (body_island w) q.0 ∙ o.first) (λ q. ap (body_island w) q.0 ∙ o.second) o.joins

    near_step : (a b : Handle) → Near w i a b → Path (Near v j) a b
    near_step a b (inl o) =
        ⊎_elim
        (λ s. one-step (inl (record { link = o.link; stands = s; joins = o.joins; first = home a o.first; second = home b o.second })))
        (⊎_elim
        (λ e.
        subst (λ (x : Handle). Path (Near v j) a x) (⊎_elim (λ q. sym q.0 ∙ e ∙ q.1) (λ q. sym q.1 ∙ sym e ∙ q.0) o.joins) stop)
        (λ e. one-step (inr (record { entry = entry_of o.link; listed = e; joins = o.joins; first = home a o.first; second = home b o.second }))))
        (links o.link o.stands (first-in a b o))
    near_step a b (inr o) =
        one-step (inr (record { entry = o.entry; listed = entries o.entry o.listed; joins = o.joins; first = home a o.first; second = home b o.second }))

    pub carry : {a b : Handle} → Path (Near w i) a b → Path (Near v j) a b
    carry p = expand (λ (x : Handle). Unit {0}) (λ a b u r. (near_step a b r, tt)) tt p

same_entries : (w v : World) → v.removal_journal ≡ w.removal_journal → (e : Removal) → In e w.removal_journal → In e v.removal_journal
same_entries w v q e i = subst (λ (x : List Removal). In e x) (sym q) i

module _ {w v : World} (J : Joined w) where
  -- where bodies, counts and entries stay
  steady : ((h : Handle) → body_island v h ≡ body_island w h) → ((j : ℕ) → count v j ≡ 0 → count w j ≡ 0)
      → ((j : ℕ) (l : Bond) → Stands w j l → Stands v j l ⊎ ((l.body1 ≡ l.body2) ⊎ In (entry_of l) v.removal_journal))
      → ((e : Removal) → In e w.removal_journal → In e v.removal_journal)
      → Joined v
  steady home counts links entries j t c a b ea eb =
      carry w v j j (λ h e. home h ∙ e) (λ l s f. links j l s) entries (J j t (counts j c) a b (sym (home a) ∙ ea) (sym (home b) ∙ eb))

  keep-made : (l : Bond) → Made l w v → Joined v
  keep-made l E j t c a b ea eb =
      let na : E.new (body_island w a) ≡ j = sym (E.home a) ∙ ea in
      let nb : E.new (body_island w b) ≡ j = sym (E.home b) ∙ eb in
      let ta : body_island w a ≢ top = λ q. t (sym na ∙ ap E.new q ∙ E.new_top) in
      let tb : body_island w b ≢ top = λ q. t (sym nb ∙ ap E.new q ∙ E.new_top) in
      let ca : count w (body_island w a) ≡ 0 = E.counts (body_island w a) ta (ap (count v) na ∙ c) in
      let cb : count w (body_island w b) ≡ 0 = E.counts (body_island w b) tb (ap (count v) nb ∙ c) in
      let go : (i : ℕ) → E.new i ≡ j → (x y : Handle) → Path (Near w i) x y → Path (Near v j) x y =
      λ i q x y p.
      carry w v i j (λ h e. E.home h ∙ ap E.new e ∙ q) (λ k s f. inl (subst (λ (n : ℕ). Stands v n k) q (E.to i k s))) (same_entries w v E.journal) p in
      let bridge : (x y : Handle) → Joins l x y → body_island w x ≢ top → body_island w y ≢ top → E.new (body_island w x) ≡ j → E.new (body_island w y) ≡ j → Path (Near v j) x y =
      λ x y u p q nx ny.
      (let hit : E.into ≡ j =
      ⊎_elim (λ z. sym (E.first (λ o. p (sym (ap (body_island w) z.0) ∙ o))) ∙ ap (λ (h : Handle). E.new (body_island w h)) z.0 ∙ nx)
      (λ z. sym (E.first (λ o. q (sym (ap (body_island w) z.0) ∙ o))) ∙ ap (λ (h : Handle). E.new (body_island w h)) z.0 ∙ ny)
      u in
      one-step
      (inl
      (record { link = l; stands = subst (λ (n : ℕ). Stands v n l) hit E.stands; joins = u; first = E.home x ∙ nx; second = E.home y ∙ ny }))) in
      ⊎_elim
      (λ q. go (body_island w a) na a b (J (body_island w a) ta ca a b refl (sym q)))
      (⊎_elim
      (λ q.
      then (go (body_island w a) na a l.body1 (J (body_island w a) ta ca a l.body1 refl (sym q.0)))
      (then
      (bridge l.body1 l.body2 (inl (refl, refl)) (λ o. ta (q.0 ∙ o)) (λ o. tb (q.1 ∙ o)) (ap E.new (sym q.0) ∙ na) (ap E.new (sym q.1) ∙ nb))
      (go (body_island w b) nb l.body2 b (J (body_island w b) tb cb l.body2 b (sym q.1) refl))))
      (λ q.
      then (go (body_island w a) na a l.body2 (J (body_island w a) ta ca a l.body2 refl (sym q.0)))
      (then
      (bridge l.body2 l.body1 (inr (refl, refl)) (λ o. ta (q.0 ∙ o)) (λ o. tb (q.1 ∙ o)) (ap E.new (sym q.0) ∙ na) (ap E.new (sym q.1) ∙ nb))
      (go (body_island w b) nb l.body1 b (J (body_island w b) tb cb l.body1 b (sym q.1) refl)))))
      (E.glue (body_island w a) (body_island w b) ta tb (na ∙ sym nb))

  keep_left : (x : Handle) → Left x w v → Joined v
  keep_left x E j t c a b ea eb =
      let off : (h : Handle) → body_island v h ≡ j → h ≡ x → ⊥ = λ h e q. t (sym e ∙ ap (body_island v) q ∙ E.out) in
      let wa : body_island w a ≡ j = sym (E.others a (off a ea)) ∙ ea in
      let wb : body_island w b ≡ j = sym (E.others b (off b eb)) ∙ eb in
      let d : j ≢ body_island w x = λ q. ⊎_elim (λ f. f a (ea ∙ q)) (λ f. f (ap (count v) (sym q) ∙ c)) E.counted in
      carry w v j j (λ h e. E.others h (λ q. d (sym e ∙ ap (body_island w) q)) ∙ e)
      (λ l s f. ⊎_elim (λ u. inl u) (λ u. absurd (d u.0)) (E.to j l s))
      (same_entries w v E.journal)
      (J j t (sym (E.counts j d) ∙ c) a b wa wb)

  keep-entered : (x : Handle) (n : ℕ) → Entered x n w v → Joined v
  keep-entered x n E j t c a b ea eb =
      either j n
      (λ q.
      let is : (h : Handle) → body_island v h ≡ j → h ≡ x =
      λ h e. handle-either h x (λ p. p) (λ p. absurd (E.empty h (sym (E.others h p) ∙ e ∙ q))) in
      subst (λ (h : Handle). Path (Near v j) a h) (is a ea ∙ sym (is b eb)) stop)
      (λ q.
      let off : (h : Handle) → body_island v h ≡ j → h ≡ x → ⊥ = λ h e p. q (sym e ∙ ap (body_island v) p ∙ E.new) in
      let on : (h : Handle) → body_island w h ≡ j → body_island v h ≡ j =
      λ h e. E.others h (λ p. t (sym e ∙ ap (body_island w) p ∙ E.out)) ∙ e in
      carry w v j j on (λ l s f. inl (E.to j l s)) (same_entries w v E.journal)
      (J j t (sym (E.counts j q) ∙ c) a b (sym (E.others a (off a ea)) ∙ ea) (sym (E.others b (off b eb)) ∙ eb)))

  keep-resolved : Resolved w v → Joined v
  keep-resolved E j t c a b ea eb =
      expand (λ (x : Handle). Unit {0}) (λ x y u r. (own x y r, tt)) tt (J j t (E.counts j c) a b (sym (E.home a) ∙ ea) (sym (E.home b) ∙ eb))
    where
      own : (x y : Handle) → Near w j x y → Path (Near v j) x y
      own x y (inl o) =
          one-step
          (inl (record { link = o.link; stands = E.to j o.link o.stands; joins = o.joins; first = E.home x ∙ o.first; second = E.home y ∙ o.second }))
      own x y (inr o) =
          absurd
          (E.counted o.entry o.listed j t
          (⊎_elim (λ q. ap (body_island w) q.0 ∙ o.first) (λ q. ap (body_island w) q.0 ∙ o.second) o.joins)
          (⊎_elim (λ q. ap (body_island w) q.1 ∙ o.second) (λ q. ap (body_island w) q.1 ∙ o.first) o.joins)
          c)

  keep-halved : (i : ℕ) → Halved i w v → Joined v
  keep-halved i E j t c a b ea eb =
      either (body_island w a) i
      (λ q. along (λ (x : Handle). Unit {0}) (λ x y u o. (inl o, tt)) tt (E.whole j t a b q ea eb))
      (λ d.
      let wa : body_island w a ≡ j = sym (E.stay a d) ∙ ea in
      let db : body_island w b ≢ i = E.apart a b d (ea ∙ sym eb) (λ q. t (sym ea ∙ q)) in
      let wb : body_island w b ≡ j = sym (E.stay b db) ∙ eb in
      let ji : j ≢ i = λ q. d (wa ∙ q) in
      let k : count v j ≡ count w j = subst (λ (n : ℕ). count v n ≡ count w n) wa (E.counts a d (λ q. t (sym wa ∙ q))) in
      carry w v j j (λ h e. E.stay h (λ q. ji (sym e ∙ q)) ∙ e) (λ l s f. inl (E.kept j l ji s)) (same_entries w v E.journal) (J j t (sym k ∙ c) a b wa wb))

  pub keep-joined : {e : Event} → Change e w v → Joined v
  keep-joined (same S) = steady S.home (λ j c. sym (S.counts j) ∙ c) (λ j l s. inl (S.to j l s)) (same_entries w v S.journal)
  keep-joined (still x n S) = steady S.home (λ j c. sym (S.counts j) ∙ c) (λ j l s. inl (S.to j l s)) (same_entries w v S.journal)
  keep-joined (entered x n E) = keep-entered x n E
  keep-joined (left x E) = keep_left x E
  keep-joined (linked {l = l} E) = keep-made l E
  keep-joined (dropped E) =
      steady E.home (λ j c. sym (E.counts j) ∙ c)
      (λ j l s.
      ⊎_elim (λ u. inl u)
      (λ u.
      inr
      (⊎_elim (λ q. inl (ap (λ (k : Bond). k.body1) u ∙ q ∙ sym (ap (λ (k : Bond). k.body2) u)))
      (λ q. inr (subst (λ (k : Bond). In (entry_of k) v.removal_journal) (sym u) q))
      E.journal))
      (E.to j l s))
      E.kept
  keep-joined (renamed {r} {k} E) =
      λ j t c a b ea eb.
      expand (λ (x : Handle). Unit {0}) (λ x y u o. (own j x y o, tt)) tt
      (J j t (sym (E.counts j) ∙ c) a b (sym (E.home a) ∙ ea) (sym (E.home b) ∙ eb))
    where
      own : (j : ℕ) (x y : Handle) → Near w j x y → Path (Near v j) x y
      own j x y (inl o) =
          one-step
          (inl (record { link = new_bond r k o.link; stands = E.to j o.link o.stands; joins = o.joins; first = E.home x ∙ o.first; second = E.home y ∙ o.second }))
      own j x y (inr o) =
          one-step
          (inr (record { entry = o.entry; listed = same_entries w v E.journal o.entry o.listed; joins = o.joins; first = E.home x ∙ o.first; second = E.home y ∙ o.second }))
  keep-joined (resolved E) = keep-resolved E
  keep-joined (halved i E) = keep-halved i E
  keep-joined (fresh e) = λ j t c a b ea eb. absurd (t (sym ea ∙ nobody a))
    where
      nobody : (a : Handle) → body_island v a ≡ top
      nobody a = ap (λ (x : World). body_island x a) e ∙ empty-home a
