use mathlib.Core.Path.{sym}
use mathlib.Core.Logic.{inl, inr}
use Rattle.table_meaning.specs.Layout.{tables, table_of}
use Rattle.split_label.proofs.OneLink.{node-read, link-past, link-ready, link-joins}
use Rattle.split_label.proofs.join_link.Goals as goal

pub returns-in_default : goal.returns-in_default
returns-in_default c =
    let x = table_of c.args.w (tables c.args.z c.args.t.now) in
    link-past c.requires.0 x c.args.j (inl (sym (node-read c.requires.0 x c.args.j _ (sym c.in_default.ensures) c.handle_at-first.ensures)))

pub returns-in_default-node_of : goal.returns-in_default-node_of
returns-in_default-node_of c =
    let x = table_of c.args.w (tables c.args.z c.args.t.now) in
    link-past c.requires.0 x c.args.j (inr (sym (node-read c.requires.0 x c.args.j _ (sym c.in_default-node_of.ensures) c.handle_at-second.ensures)))

pub join-requires : goal.join-requires
join-requires c =
    let x = table_of c.args.w (tables c.args.z c.args.t.now) in
    let p = node-read c.requires.0 x c.args.j _ c.in-Some.ensures.0 c.handle_at-first.ensures in
    let q = node-read c.requires.0 x c.args.j _ c.in-Some-node_of.ensures.0 c.handle_at-second.ensures in
    link-ready c.requires.0 x c.args.j _ _ p q c.in-Some.ensures.1 c.in-Some-node_of.ensures.1

pub returns : goal.returns
returns c =
    let x = table_of c.args.w (tables c.args.z c.args.t.now) in
    let p = node-read c.requires.0 x c.args.j _ c.in-Some.ensures.0 c.handle_at-first.ensures in
    let q = node-read c.requires.0 x c.args.j _ c.in-Some-node_of.ensures.0 c.handle_at-second.ensures in
    link-joins c.requires.0 x c.args.j _ _ p q c.in-Some.ensures.1 c.in-Some-node_of.ensures.1 c.join.result c.join.ensures
