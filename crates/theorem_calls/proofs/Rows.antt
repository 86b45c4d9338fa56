-- One law a call: its promise and a history give the next history. So the rows of `perform`, which the theorems speak of, are the promises of the code.
use mathlib.Core.Logic.{inl, inr}
use mathlib.Core.Bool.{Bool}
use mathlib.Core.List.{List}
use Prim.Native.Nat.{ℕ}
use lib.ListN.{length}
use Rattle.def_kinds.specs.declared.Sizes.{Sizes}
use Rattle.def_kinds.specs.Answers.{Answer}
use Rattle.def_kinds.specs.Number.{rig}
use Rattle.def_state.specs.World.{Handle, Key, World, Step}
use Rattle.def_state.specs.Bodies.{put, flags, retire}
use Rattle.def_state.specs.Membership.{ensure, remove}
use Rattle.def_state.specs.Links.{link_contact, unlink_contact, contact_edge_removed, link_joint, unlink_joint}
use Rattle.def_state.specs.Resolver.{resolve_removals}
use Rattle.def_state.specs.Chain.{refresh_multibody_chain}
use Rattle.def_state.specs.Split.{split_island_now, schedule_split, run_pending_split}
use Rattle.def_state.specs.Scan.{begin_sleep_scan, observe_body_for_sleep, mark_island_sleeping, wake_island}
use Rattle.def_state.specs.Calls.{Reset as ResetCall, Put, Retire, Flags, Ensure, Remove, Contact, Uncontact, Renumber, Joint, Unjoint, Chain, Resolve, Split, Schedule, Run, Begin, Observe, Finish as FinishCall, Sleep, Wake, finished, perform}
use Rattle.table_meaning.specs.Does.{Called, Reset}
use Rattle.core_finish.specs.Listing.{Finish}
use Rattle.core_finish.proofs.Agree.{finish-call}
use Rattle.theorem_history.specs.History.{History, call}
use Rattle.theorem_history.proofs.Sentences.{history-sound}
use Rattle.ashwoodrung.specs.Told.{Told, ToldReset, ToldList}
use Rattle.theorem_calls.specs.Next.{Next}

module _ {Z : Sizes} {t t' : List ℕ} {r : Answer} where
  -- a reset in the middle of a history is a call like the others: the tables are sound, so their length is right
  pub reset-next : Reset Z t r t' → History Z t → History Z t'
  unfolding perform
  reset-next (inl e) H = call H ResetCall r (inl (history-sound H, record { sound = e.sound; answer = e.zero; after = e.after; frame = e.frame }))
  reset-next (inr e) H = absurd (e.wrong (history-sound H).long)

  pub put_next : (h : Handle) (f e z : Bool) → Called Z (put Z h f e z) t r t' → History Z t → History Z t'
  unfolding perform
  put_next h f e z d H = call H (Put h f e z) r d

  pub flags-next : (h : Handle) (f e z : Bool) → Called Z (flags h f e z) t r t' → History Z t → History Z t'
  unfolding perform
  flags-next h f e z d H = call H (Flags h f e z) r d

  pub retire-next : (h : Handle) → Called Z (retire h) t r t' → History Z t → History Z t'
  unfolding perform
  retire-next h d H = call H (Retire h) r d

  pub ensure-next : (h : Handle) → Called Z (ensure h) t r t' → History Z t → History Z t'
  unfolding perform
  ensure-next h d H = call H (Ensure h) r d

  pub remove-next : (h : Handle) → Called Z (remove h) t r t' → History Z t → History Z t'
  unfolding perform
  remove-next h d H = call H (Remove h) r d

  pub contact-next : (e : ℕ) (h1 h2 : Handle) → Called Z (link_contact Z e h1 h2) t r t' → History Z t → History Z t'
  unfolding perform
  contact-next e h1 h2 d H = call H (Contact e h1 h2) r d

  pub uncontact-next : (e : ℕ) → Called Z (unlink_contact Z e) t r t' → History Z t → History Z t'
  unfolding perform
  uncontact-next e d H = call H (Uncontact e) r d

  pub renumber-next : (removed last : ℕ) → Called Z (contact_edge_removed removed last) t r t' → History Z t → History Z t'
  unfolding perform
  renumber-next removed last d H = call H (Renumber removed last) r d

  pub joint-next : (q : Key) (h1 h2 : Handle) → Called Z (link_joint Z q h1 h2) t r t' → History Z t → History Z t'
  unfolding perform
  joint-next q h1 h2 d H = call H (Joint q h1 h2) r d

  pub unjoint-next : (q : Key) → Called Z (unlink_joint Z q) t r t' → History Z t → History Z t'
  unfolding perform
  unjoint-next q d H = call H (Unjoint q) r d

  pub chain_next : (high low : ℕ) (hs : List Handle) → Called Z (refresh_multibody_chain Z high low hs) t r t' → History Z t → History Z t'
  unfolding perform
  chain_next high low hs d H = call H (Chain high low hs) r d

  pub resolve-next : Called Z resolve_removals t r t' → History Z t → History Z t'
  unfolding perform
  resolve-next d H = call H Resolve r d

  pub split-next : (i : ℕ) → Called Z (split_island_now i) t r t' → History Z t → History Z t'
  unfolding perform
  split-next i d H = call H (Split i) r d

  pub schedule-next : (i : ℕ) → Called Z (schedule_split i) t r t' → History Z t → History Z t'
  unfolding perform
  schedule-next i d H = call H (Schedule i) r d

  pub run-next : Called Z run_pending_split t r t' → History Z t → History Z t'
  unfolding perform
  run-next d H = call H Run r d

  pub begin-next : Called Z begin_sleep_scan t r t' → History Z t → History Z t'
  unfolding perform
  begin-next d H = call H Begin r d

  pub observe-next : (i : ℕ) (e : Bool) → Called Z (observe_body_for_sleep i e) t r t' → History Z t → History Z t'
  unfolding perform
  observe-next i e d H = call H (Observe i e) r d

  pub sleep-next : (i : ℕ) → Called Z (mark_island_sleeping i) t r t' → History Z t → History Z t'
  unfolding perform
  sleep-next i d H = call H (Sleep i) r d

  pub wake-next : (i : ℕ) → Called Z (wake_island i) t r t' → History Z t → History Z t'
  unfolding perform
  wake-next i d H = call H (Wake i) r d

-- a finish with room for so many words as the output has
finished-next : {Z : Sizes} {t t' : List ℕ} {r : Answer} (room : ℕ) → Called Z (finished room) t r t' → History Z t → History Z t'
unfolding perform
finished-next {r = r} room d H = call H (FinishCall room) r d

pub finish-next : {Z : Sizes} {t out t' out' : List ℕ} {r : Answer} {n : ℕ} → Finish Z t out r n t' out' → History Z t → History Z t'
finish-next {Z} {t} {out} {t'} {out'} {r} {n} d = finished-next (length out) (finish-call Z t out r n t' out' d)

-- ---- the same of an export, by the law of its call

pub told-next : {t t' : List ℕ} {r : ℕ} {f : World → Step} → ((a : Answer) → Called rig f t a t' → Next t t') → Told f t r t' → Next t t'
told-next k x = k x.0 x.2

pub told-reset-next : {t t' : List ℕ} {r : ℕ} → ToldReset t r t' → Next t t'
told-reset-next x = reset-next x.2

pub told-list-next : {t out t' out' : List ℕ} {r : ℕ} → ToldList t out r t' out' → Next t t'
told-list-next x = finish-next x.2
