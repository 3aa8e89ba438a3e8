use Rattle.std.proofs.Common.{◌≡◌, Ok, subst, IfOk, IfSome, Some}
use Rattle.qc_io.specs.Outside.{file_at}
use Rattle.qc_tree.specs.Trees.{IsTree, NoneEarlier, Tree, tree_branchings, tree_text, tree_value}
use Rattle.qc_replay.specs.File.{Fails, IsReadThrough}
use Rattle.qc_replay.specs.Shown.{IsShown}
use Rattle.qc_replay.specs.Stages.{WalkView}
use Rattle.qc_replay.specs.Walk.{start, tree_in}
use Rattle.qc_replay.proofs.TreeFacts.{each_ok, never_faulty, no_earlier, one_value, read_in, shows}
use Rattle.qc_replay.proofs.tree_file.replay.Goals as goal

pub returns-clause-read : goal.returns-clause-read
returns-clause-read g c =
    let inst = c.args.inst.now in
    let file = file_at (g.S.Sink.view c.args.shelf.now).files c.args.name.now in
    each_ok (IsReadThrough inst file) (λ read. IfSome file (λ bytes. tree_in inst bytes ≡ Ok read)) c.read_file-read.result
    (read_in inst file)
    (subst (λ (w : WalkView). IfOk c.read_file-read.result (IsReadThrough w.inst file)) c.in_ok-walk.ensures.start
    c.read_file-read.ensures.read)

pub returns-clause-fault : goal.returns-clause-fault
returns-clause-fault g c = λ fault is.
    let file = file_at (g.S.Sink.view c.args.shelf.now).files c.args.name.now in
    subst (λ (w : WalkView). Fails w.inst 1 (start w.inst) file fault) c.in_ok-walk.ensures.start
    (c.read_file-read.ensures.fault fault is)

pub returns-clause-shown : goal.returns-clause-shown
returns-clause-shown g c =
    let inst = c.args.inst.now in
    let file = file_at (g.S.Sink.view c.args.shelf.now).files c.args.name.now in
    each_ok (IsReadThrough inst file) (IsShown inst file) c.read_file-read.result (shows inst file)
    (subst (λ (w : WalkView). IfOk c.read_file-read.result (IsReadThrough w.inst file)) c.in_ok-walk.ensures.start
    c.read_file-read.ensures.read)

pub returns-clause-none_earlier : goal.returns-clause-none_earlier
returns-clause-none_earlier g c =
    let inst = c.args.inst.now in
    let file = file_at (g.S.Sink.view c.args.shelf.now).files c.args.name.now in
    each_ok (IsReadThrough inst file) (λ read. NoneEarlier inst read.bound) c.read_file-read.result
    (λ read through. no_earlier inst file read through c.in_ok-walk.ensures.valid)
    (subst (λ (w : WalkView). IfOk c.read_file-read.result (IsReadThrough w.inst file)) c.in_ok-walk.ensures.start
    c.read_file-read.ensures.read)

pub returns-clause-every_tree : goal.returns-clause-every_tree
returns-clause-every_tree g c = λ tree fault is_tree text is.
    let file = file_at (g.S.Sink.view c.args.shelf.now).files c.args.name.now in
    never_faulty c.args.inst.now c.in_ok-walk.ensures.valid file fault
    (subst (λ (w : WalkView). Fails w.inst 1 (start w.inst) file fault) c.in_ok-walk.ensures.start
    (c.read_file-read.ensures.fault fault is)) tree is_tree text

pub returns-clause-one_value : goal.returns-clause-one_value
returns-clause-one_value g c =
    let inst = c.args.inst.now in
    let file = file_at (g.S.Sink.view c.args.shelf.now).files c.args.name.now in
    each_ok (IsReadThrough inst file)
    (λ read. (tree : Tree) → IsTree inst tree → file ≡ Some (tree_text inst tree)
    → (read.bound ≡ tree_value inst tree) × (read.branched ≡ tree_branchings tree))
    c.read_file-read.result (one_value inst c.in_ok-walk.ensures.valid file)
    (subst (λ (w : WalkView). IfOk c.read_file-read.result (IsReadThrough w.inst file)) c.in_ok-walk.ensures.start
    c.read_file-read.ensures.read)
