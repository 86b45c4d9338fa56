-- persistent.rs: refresh_multibody_chain. The old chain is unlinked, then a new one is linked over the given bodies, in order.
use Rattle.std.specs.Prelude.{Bool, false, List, [], ◌∷◌, ℕ, zero, suc, ◌+◌, ◌-◌, length, eqb, ltb}
use Rattle.def_kinds.specs.Choice.{pick}
use Rattle.def_kinds.specs.declared.Sizes.{Sizes}
use Rattle.def_kinds.specs.Answers.{JointsFull, JournalFull}
use Rattle.def_state.specs.Plain.{top}
use Rattle.def_state.specs.World.{Handle, chain, World, Step, done, gives, body_of, named}
use Rattle.def_state.specs.Links.{joint_home, joint_room, link_joint, unlink_joint}

-- a body that a chain links: live, enabled and not fixed: flags decide, not membership
unfoldable pub chainable : World → Handle → Bool
chainable w h = pick (named w h) (pick (body_of w h.slot).fixed false (body_of w h.slot).enabled) false

unfoldable pub chained : World → List Handle → List Handle
chained w [] = []
chained w (h ∷ hs) = pick (chainable w h) (h ∷ chained w hs) (chained w hs)

-- how many ordinals from o on are linked, up to the first that is missing; there are at most k
unfoldable pub chain_length : World → ℕ → ℕ → ℕ → ℕ → ℕ
chain_length w high low o zero = 0
chain_length w high low o (suc k) = pick (eqb (joint_home w (chain high low o)) top) 0 (suc (chain_length w high low (o + 1) k))

-- the old chain: at most as many links as there are joints
unfoldable pub old_length : Sizes → World → ℕ → ℕ → ℕ
old_length Z w high low = chain_length w high low 0 Z.joints

-- k ordinals from o on are unlinked
unfoldable pub unlinked : Sizes → ℕ → ℕ → ℕ → ℕ → World → World
unlinked Z high low o zero w = w
unlinked Z high low o (suc k) w = unlinked Z high low (o + 1) k (unlink_joint Z (chain high low o) w).after

-- successive bodies are linked. The ordinal rises for each pair, also where no link was RecordedAfter
unfoldable pub linked : Sizes → ℕ → ℕ → ℕ → Handle → List Handle → World → World
linked Z high low o prev [] w = w
linked Z high low o prev (h ∷ hs) w = linked Z high low (o + 1) h hs (link_joint Z (chain high low o) prev h w).after

unfoldable pub linked_all : Sizes → ℕ → ℕ → List Handle → World → World
linked_all Z high low [] w = w
linked_all Z high low (h ∷ hs) w = linked Z high low 0 h hs w

-- refresh_multibody_chain, with its three refusals (01)
unfoldable pub refresh_multibody_chain : Sizes → ℕ → ℕ → List Handle → World → Step
refresh_multibody_chain Z high low hs w =
    let old = old_length Z w high low in
    let new = chained w hs in
    pick (ltb Z.slots (length hs)) (gives JointsFull w)
    (pick (ltb (joint_room Z w + old) (length new - 1)) (gives JointsFull w)
    (pick (ltb (Z.journal - length w.removal_journal) old) (gives JournalFull w)
    (done (linked_all Z high low new (unlinked Z high low 0 old w)))))
