-- The three walks of a split: contact links, joint links and bodies leave. Each is a `Walk` on its lists, and leaves all others alone.
use mathlib.Core.Path.{◌≡◌, refl, sym, ◌∙◌, ap}
use mathlib.Core.Logic.{◌⊎◌, ◌≢◌, ⊎_elim}
use mathlib.Core.Bool.{Bool, true, false}
use mathlib.Core.Option.{Option}
use mathlib.Core.List.{List, [], ◌∷◌, ◌++◌}
use Prim.Native.Nat.{ℕ, zero, suc, ◌<◌}
use native.Mathlib.Omega.{arith}
use lib.ListN.{length, get_or, set, length-set}
use lib.Seq.{get_or-set_same, get_or-set_other, set_out}
use lib.Dec.{eqb}
use borrow.Author.Tests.{eq-eqb, ne_eqb}
use Rattle.def_kinds.specs.Choice.{pick}
use Rattle.list_in_table.proofs.Laws.{either}
use Rattle.list_in_table.proofs.Same.{below}
use Rattle.def_state.specs.Plain.{top, swap_remove}
use Rattle.def_state.specs.World.{Handle, Body, ContactLink, absent_contact, JointLink, absent_joint, Island, absent_island, Removal, Observed, World, island_at}
use Rattle.def_state.specs.Fields.{island_set, contacts_set, joints_set, members_set}
use Rattle.def_state.specs.Links.{contact_pushed, contact_removed, joint_pushed, joint_removed}
use Rattle.def_state.specs.Split.{link_goal, contacts_leave, joint_moved, joints_leave, body_moved, bodies_leave}
use Rattle.theorem_split.proofs.Walk.{Move, Walk, done, more}

-- ---- an island set anew

-- what the new one has in common with the old one, all islands keep
pub set-field : {B : Type 0} (f : Island → B) (is : List Island) (i : ℕ) (a : Island) → f a ≡ f (get_or is i absent_island) → (j : ℕ)
    → f (get_or (set is i a) j absent_island) ≡ f (get_or is j absent_island)
set-field f is i a e j =
    either j i
    (λ q.
    below i (length is) (λ l. ap (λ (k : ℕ). f (get_or (set is i a) k absent_island)) q ∙ ap f (get_or-set_same is i a absent_island l) ∙ e ∙ ap (λ (k : ℕ). f (get_or is k absent_island)) (sym q))
    (λ l. ap (λ (x : List Island). f (get_or x j absent_island)) (set_out is i a l)))
    (λ d. ap f (get_or-set_other is i j a absent_island d))

-- one list of an island: how it is read and how it is set
module _ {A : Type 0} (d : A) (get : Island → List A) (put : Island → List A → Island) (law : (a : Island) (xs : List A) → get (put a xs) ≡ xs) (base p : ℕ) (is : List Island)
    (bl : base < length is)
  where
    abbrev F : List Island → ℕ → List A
    F x j = get (get_or x j absent_island)

    abbrev cut : List Island
    cut = set is base (put (get_or is base absent_island) (swap_remove d (get (get_or is base absent_island)) p))

    abbrev pushed : ℕ → A → List Island
    pushed to x = set cut to (put (get_or cut to absent_island) (get (get_or cut to absent_island) ++ (x ∷ [])))

    cut-base : F cut base ≡ swap_remove d (F is base) p
    cut-base = ap get (get_or-set_same is base _ absent_island bl) ∙ law _ _

    cut-other : (j : ℕ) → j ≢ base → F cut j ≡ F is j
    cut-other j o = ap get (get_or-set_other is base j _ absent_island o)

    pub stays : (to : ℕ) → to ≡ base → Move d base p to (F is) (F is)
    stays to e = record { stay = λ q j. refl; from = λ q. absurd (q e); into = λ q r. absurd (q e); rest = λ j a b. refl }

    pub drops : (to : ℕ) → to ≢ base → to ≡ top → Move d base p to (F is) (F cut)
    drops to n e = record { stay = λ q. absurd (n q); from = λ q. cut-base; into = λ q r. absurd (r e); rest = λ j a b. cut-other j a }

    pub pushes : (to : ℕ) → to ≢ base → to < length is → Move d base p to (F is) (F (pushed to (get_or (F is base) p d)))
    pushes to n l =
        let cl : to < length cut = rw (length-set is base (put (get_or is base absent_island) (swap_remove d (get (get_or is base absent_island)) p))) l in
        record {
          stay = λ q. absurd (n q);
          from = λ q. ap get (get_or-set_other cut to base _ absent_island (λ o. n (sym o))) ∙ cut-base;
          into = λ q r. ap get (get_or-set_same cut to _ absent_island cl) ∙ law _ _ ∙ ap (λ (x : List A). x ++ (get_or (F is base) p d ∷ [])) (cut-other to n);
          rest = λ j a b. ap get (get_or-set_other cut to j _ absent_island b) ∙ cut-other j a;
        }

-- ---- what none of the walks changes

pub record Rest : Type 0 where
  pub table : List Body
  pub free : List ℕ
  pub tracked : ℕ
  pub joint_places : ℕ
  pub journal : List Removal
  pub pending : Option ℕ
  pub stamp : ℕ
  pub scanning : Bool
  pub touched : List Observed
  pub long : ℕ

abbrev pub rest_of : World → Rest
rest_of w =
    record {
      table = w.bodies;
      free = w.free_islands;
      tracked = w.tracked;
      joint_places = w.joint_places;
      journal = w.removal_journal;
      pending = w.split_island;
      stamp = w.sleep_scan_stamp;
      scanning = w.scanning;
      touched = w.sleep_scan_touched;
      long = length w.islands;
    }

-- an island's three numbers
pub record Row : Type 0 where
  pub count : ℕ
  pub denied : ℕ
  pub sleeping : Bool

abbrev pub row_of : Island → Row
row_of a = record { count = a.constraint_remove_count; denied = a.split_denied_until; sleeping = a.sleeping }

rest-set : (w : World) (i : ℕ) (a : Island) → rest_of (island_set w i a) ≡ rest_of w
unfolding island_set
rest-set w i a = rw (length-set w.islands i a)

-- what holds in each of three ways holds of the pick
three : {A : Type 0} (P : A → Type 0) (s t : Bool) {x y z : A} → P x → P y → P z → P (pick s x (pick t y z))
three P true t a b c = a
three P false true a b c = b
three P false false a b c = c

two : {A : Type 0} (P : A → Type 0) (s : Bool) {x y : A} → P x → P y → P (pick s x y)
two P true a b = a
two P false a b = b

-- ---- contact links

abbrev pub contacts_at : World → ℕ → List ContactLink
contacts_at w j = (island_at w j).contact_links

-- all of an island but its contact links
pub record NoContacts : Type 0 where
  pub bodies : List ℕ
  pub joints : List JointLink
  pub row : Row

abbrev pub no_contacts : Island → NoContacts
no_contacts a = record { bodies = a.bodies; joints = a.joint_links; row = row_of a }

module _ (node : Handle → ℕ) (g : ℕ → ℕ) (base : ℕ) where
  abbrev pub contact_goal : ℕ → ContactLink → ℕ
  contact_goal p l = link_goal g (node l.body1) (node l.body2)

  abbrev contact_to : ℕ → World → ℕ
  contact_to p w = contact_goal p (get_or (contacts_at w base) p absent_contact)

  abbrev next_contact : ℕ → World → World
  next_contact p w =
      pick (eqb (contact_to p w) base) w
      (pick (eqb (contact_to p w) top) (contact_removed base p w) (contact_pushed (contact_to p w) (get_or (contacts_at w base) p absent_contact) (contact_removed base p w)))

  next-rest : (p : ℕ) (w : World) → rest_of (next_contact p w) ≡ rest_of w
  unfolding contact_removed contact_pushed
  next-rest p w =
      three (λ (v : World). rest_of v ≡ rest_of w) (eqb (contact_to p w) base) (eqb (contact_to p w) top) refl (rest-set w base _) (rest-set (contact_removed base p w) (contact_to p w) _ ∙ rest-set w base _)

  next_field : (p : ℕ) (w : World) (j : ℕ) → no_contacts (island_at (next_contact p w) j) ≡ no_contacts (island_at w j)
  unfolding contact_removed contact_pushed island_set
  next_field p w j =
      three (λ (v : World). no_contacts (island_at v j) ≡ no_contacts (island_at w j)) (eqb (contact_to p w) base) (eqb (contact_to p w) top) refl
      (set-field no_contacts w.islands base _ refl j)
      (set-field no_contacts (contact_removed base p w).islands (contact_to p w) _ refl j ∙ set-field no_contacts w.islands base _ refl j)

  pub contacts-rest : (p : ℕ) (w : World) → rest_of (contacts_leave node g base p w) ≡ rest_of w
  unfolding contacts_leave
  contacts-rest zero w = refl
  contacts-rest (suc p) w = contacts-rest p (next_contact p w) ∙ next-rest p w

  pub contacts-field : (p : ℕ) (w : World) (j : ℕ) → no_contacts (island_at (contacts_leave node g base p w) j) ≡ no_contacts (island_at w j)
  unfolding contacts_leave
  contacts-field zero w j = refl
  contacts-field (suc p) w j = contacts-field p (next_contact p w) j ∙ next_field p w j

  next-move : (p : ℕ) (w : World) → base < length w.islands → (contact_to p w ≡ top) ⊎ (contact_to p w < length w.islands)
      → Move absent_contact base p (contact_to p w) (contacts_at w) (contacts_at (next_contact p w))
  unfolding contact_removed contact_pushed island_set
  next-move p w bl h =
      either (contact_to p w) base
      (λ e. rw (eq-eqb (contact_to p w) base e) (stays absent_contact (λ (a : Island). a.contact_links) contacts_set (λ a xs. refl) base p w.islands bl (contact_to p w) e))
      (λ n.
      either (contact_to p w) top
      (λ e.
      rw (ne_eqb (contact_to p w) base n, eq-eqb (contact_to p w) top e)
      (drops absent_contact (λ (a : Island). a.contact_links) contacts_set (λ a xs. refl) base p w.islands bl (contact_to p w) n e))
      (λ o.
      rw (ne_eqb (contact_to p w) base n, ne_eqb (contact_to p w) top o)
      (pushes absent_contact (λ (a : Island). a.contact_links) contacts_set (λ a xs. refl) base p w.islands bl (contact_to p w) n (⊎_elim (λ t. absurd (o t)) (λ l. l) h))))

  pub contacts-walk : (p : ℕ) (w : World) → base < length w.islands → ((l : ContactLink) → (contact_goal p l ≡ top) ⊎ (contact_goal p l < length w.islands))
      → Walk absent_contact contact_goal base p (contacts_at w) (contacts_at (contacts_leave node g base p w))
  unfolding contacts_leave
  contacts-walk zero w bl h = done
  contacts-walk (suc p) w bl h =
      let e : length (next_contact p w).islands ≡ length w.islands = ap (λ (r : Rest). r.long) (next-rest p w) in
      more (next-move p w bl (h (get_or (contacts_at w base) p absent_contact))) (contacts-walk p (next_contact p w) (rw e bl) (rw e h))

-- ---- joint links

abbrev pub joints_at : World → ℕ → List JointLink
joints_at w j = (island_at w j).joint_links

-- all of an island but its joint links
pub record NoJoints : Type 0 where
  pub bodies : List ℕ
  pub contacts : List ContactLink
  pub row : Row

abbrev pub no_joints : Island → NoJoints
no_joints a = record { bodies = a.bodies; contacts = a.contact_links; row = row_of a }

module _ (node : Handle → ℕ) (g : ℕ → ℕ) (base : ℕ) where
  abbrev pub joint_goal : ℕ → JointLink → ℕ
  joint_goal p l = link_goal g (node l.body1) (node l.body2)

  abbrev joint_to : ℕ → World → ℕ
  joint_to p w = joint_goal p (get_or (joints_at w base) p absent_joint)

  abbrev next_joint : ℕ → World → World
  next_joint p w =
      pick (eqb (joint_to p w) base) w
      (pick (eqb (joint_to p w) top) (joint_removed base p w) (joint_moved base (joint_to p w) p w))

  abbrev joint_cut : ℕ → World → World
  joint_cut p w = island_set w base (joints_set (island_at w base) (swap_remove absent_joint (island_at w base).joint_links p))

  nextj-rest : (p : ℕ) (w : World) → rest_of (next_joint p w) ≡ rest_of w
  unfolding joint_removed joint_moved joint_pushed
  nextj-rest p w =
      three (λ (v : World). rest_of v ≡ rest_of w) (eqb (joint_to p w) base) (eqb (joint_to p w) top) refl (rest-set _ base _)
      (rest-set (joint_cut p w) (joint_to p w) _ ∙ rest-set w base _)

  nextj-field : (p : ℕ) (w : World) (j : ℕ) → no_joints (island_at (next_joint p w) j) ≡ no_joints (island_at w j)
  unfolding joint_removed joint_moved joint_pushed island_set
  nextj-field p w j =
      three (λ (v : World). no_joints (island_at v j) ≡ no_joints (island_at w j)) (eqb (joint_to p w) base) (eqb (joint_to p w) top) refl
      (set-field no_joints w.islands base _ refl j)
      (set-field no_joints (joint_cut p w).islands (joint_to p w) _ refl j ∙ set-field no_joints w.islands base _ refl j)

  pub joints-rest : (p : ℕ) (w : World) → rest_of (joints_leave node g base p w) ≡ rest_of w
  unfolding joints_leave
  joints-rest zero w = refl
  joints-rest (suc p) w = joints-rest p (next_joint p w) ∙ nextj-rest p w

  pub joints-field : (p : ℕ) (w : World) (j : ℕ) → no_joints (island_at (joints_leave node g base p w) j) ≡ no_joints (island_at w j)
  unfolding joints_leave
  joints-field zero w j = refl
  joints-field (suc p) w j = joints-field p (next_joint p w) j ∙ nextj-field p w j

  nextj-move : (p : ℕ) (w : World) → base < length w.islands → (joint_to p w ≡ top) ⊎ (joint_to p w < length w.islands)
      → Move absent_joint base p (joint_to p w) (joints_at w) (joints_at (next_joint p w))
  unfolding joint_removed joint_moved joint_pushed island_set
  nextj-move p w bl h =
      either (joint_to p w) base
      (λ e. rw (eq-eqb (joint_to p w) base e) (stays absent_joint (λ (a : Island). a.joint_links) joints_set (λ a xs. refl) base p w.islands bl (joint_to p w) e))
      (λ n.
      either (joint_to p w) top
      (λ e.
      rw (ne_eqb (joint_to p w) base n, eq-eqb (joint_to p w) top e)
      (drops absent_joint (λ (a : Island). a.joint_links) joints_set (λ a xs. refl) base p w.islands bl (joint_to p w) n e))
      (λ o.
      rw (ne_eqb (joint_to p w) base n, ne_eqb (joint_to p w) top o)
      (pushes absent_joint (λ (a : Island). a.joint_links) joints_set (λ a xs. refl) base p w.islands bl (joint_to p w) n (⊎_elim (λ t. absurd (o t)) (λ l. l) h))))

  pub joints-walk : (p : ℕ) (w : World) → base < length w.islands → ((l : JointLink) → (joint_goal p l ≡ top) ⊎ (joint_goal p l < length w.islands))
      → Walk absent_joint joint_goal base p (joints_at w) (joints_at (joints_leave node g base p w))
  unfolding joints_leave
  joints-walk zero w bl h = done
  joints-walk (suc p) w bl h =
      let e : length (next_joint p w).islands ≡ length w.islands = ap (λ (r : Rest). r.long) (nextj-rest p w) in
      more (nextj-move p w bl (h (get_or (joints_at w base) p absent_joint))) (joints-walk p (next_joint p w) (rw e bl) (rw e h))

-- ---- bodies

abbrev pub bodies_at : World → ℕ → List ℕ
bodies_at w j = (island_at w j).bodies

-- all of an island but its bodies
pub record NoBodies : Type 0 where
  pub contacts : List ContactLink
  pub joints : List JointLink
  pub row : Row

abbrev pub no_bodies : Island → NoBodies
no_bodies a = record { contacts = a.contact_links; joints = a.joint_links; row = row_of a }

module _ (g : ℕ → ℕ) (base : ℕ) where
  abbrev next_body : ℕ → World → World
  next_body p w = pick (eqb (g p) base) w (body_moved base (g p) p w)

  abbrev body_cut : ℕ → World → World
  body_cut p w = island_set w base (members_set (island_at w base) (swap_remove 0 (island_at w base).bodies p))

  nextb-rest : (p : ℕ) (w : World) → rest_of (next_body p w) ≡ rest_of w
  unfolding body_moved
  nextb-rest p w =
      two (λ (v : World). rest_of v ≡ rest_of w) (eqb (g p) base) refl (rest-set (body_cut p w) (g p) _ ∙ rest-set w base _)

  nextb-field : (p : ℕ) (w : World) (j : ℕ) → no_bodies (island_at (next_body p w) j) ≡ no_bodies (island_at w j)
  unfolding body_moved island_set
  nextb-field p w j =
      two (λ (v : World). no_bodies (island_at v j) ≡ no_bodies (island_at w j)) (eqb (g p) base) refl
      (set-field no_bodies (body_cut p w).islands (g p) _ refl j ∙ set-field no_bodies w.islands base _ refl j)

  pub bodies-rest : (p : ℕ) (w : World) → rest_of (bodies_leave g base p w) ≡ rest_of w
  unfolding bodies_leave
  bodies-rest zero w = refl
  bodies-rest (suc p) w = bodies-rest p (next_body p w) ∙ nextb-rest p w

  pub bodies-field : (p : ℕ) (w : World) (j : ℕ) → no_bodies (island_at (bodies_leave g base p w) j) ≡ no_bodies (island_at w j)
  unfolding bodies_leave
  bodies-field zero w j = refl
  bodies-field (suc p) w j = bodies-field p (next_body p w) j ∙ nextb-field p w j

  nextb-move : (p : ℕ) (w : World) → base < length w.islands → g p < length w.islands → Move 0 base p (g p) (bodies_at w) (bodies_at (next_body p w))
  unfolding body_moved island_set
  nextb-move p w bl h =
      either (g p) base
      (λ e. rw (eq-eqb (g p) base e) (stays 0 (λ (a : Island). a.bodies) members_set (λ a xs. refl) base p w.islands bl (g p) e))
      (λ n. rw (ne_eqb (g p) base n) (pushes 0 (λ (a : Island). a.bodies) members_set (λ a xs. refl) base p w.islands bl (g p) n h))

  pub bodies-walk : (p : ℕ) (w : World) → base < length w.islands → ((q : ℕ) → q < p → g q < length w.islands)
      → Walk 0 (λ q x. g q) base p (bodies_at w) (bodies_at (bodies_leave g base p w))
  unfolding bodies_leave
  bodies-walk zero w bl h = done
  bodies-walk (suc p) w bl h =
      let e : length (next_body p w).islands ≡ length w.islands = ap (λ (r : Rest). r.long) (nextb-rest p w) in
      more (nextb-move p w bl (h p (omega arith))) (bodies-walk p (next_body p w) (rw e bl) (rw e (λ (q : ℕ) (l : q < p). h q (omega arith))))
