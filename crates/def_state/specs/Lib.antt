-- The state, and what each call does to it. Read them in this order, with persistent.rs and global_split.rs beside; a definition that is a function
-- there has its name, with hyphens.
--
-- To read them:
-- - `pick c x y` is `if c { x } else { y }`;
-- - `eqb a b`, `ltb a b`, `leb a b` are a == b, a < b, a <= b of numbers, as true or false; `a - b` is 0 where b is the larger;
-- - `get_or xs i d` is xs[i], and d where the list is shorter; `set xs i x` is xs with x at i; `xs ++ ys` is one list behind the other;
-- - `w.field` is a field; a state is never changed: what a call leaves is a new one (Fields has one setter a field);
-- - `Option` is Rust's (`none`, `some x`), `record { .. }` is a struct's value;
-- - `abbrev` and `unfoldable` both begin a definition: they differ in when a proof looks inside (always; only where it says so), and nothing
--   else; `pub` lets other files name it.
pub mod Plain
pub mod World
pub mod Fields
pub mod Bodies
pub mod Membership
pub mod Links
pub mod Resolver
pub mod Chain
pub mod Connected
pub mod Split
pub mod Scan
pub mod Calls
