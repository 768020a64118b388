-- The file of the next mount joins those before it, weighed behind them.
use Rattle.std.proofs.Common.{◌≡◌, ◌≤◌, ℕ, List, ◌∷◌, [], ◌++◌, length, take, map as over, slice_get, Some, refl, sym, ap, subst, ◌∙◌, arith}
use Rattle.std.specs.List.{remove, sum_by}
use Rattle.std.proofs.lemmas.List.Sums.{sum_by_push}
use Rattle.std.proofs.lemmas.Option.{same_Some}
use Rattle.backend_files.specs.WholeFile.{IsWhole}
use Rattle.model_names.specs.Name.{Name}
use Rattle.mount_table.specs.declared.mounts.Mount.{Mount}
use Rattle.mounted_files.specs.Begins.{Begins}
use Rattle.mounted_files.specs.Begun.{Begun, number_of, others}
use Rattle.mounted_files.specs.Files.{IsState}
use Rattle.mounted_files.specs.Short.{HasShortTexts, HaveShortTexts}
use Rattle.mounted_files.specs.Weighed.{added_weight}
use Rattle.mounted_files.specs.Writable.{CanBeWritten, CanBeWrittenSoFar}
use Rattle.mounted_files.specs.declared.files.MountedFile.{MountedFile}
use Rattle.mounted_files.proofs.BegunLemmas.{slice_get-remove}
use Rattle.mounted_files.proofs.OpeningLemmas.{begins-more}
use Rattle.mounted_files.proofs.StateLemmas.{few-next, mounts-next, short-next}
use Rattle.mounted_files.proofs.WeighLemmas.{weighed_file-short}
use Rattle.mounted_files.proofs.WritableLemmas.{writable-more}
use Rattle.mounted_files.proofs.opening.Opening.add.Goals as goal

pub invariant_of-self-2 : goal.invariant_of-self-2
invariant_of-self-2 g c =
    let table = c.self.inside.table in
    let place = c.self.inside.place in
    let rest = remove table place in
    let files = c.self.inside.files.items in
    let inv = c.self.invariant in
    let mount = c.in-Some.mount.now in
    let file = c.weigh-sum.new.file in
    let count : c.len.result ≡ length files = omega (arith, c.len.ensures, c.self.inside.files.ok.0) in
    let number : c.number_of-number.result ≡ number_of place (length files) = c.number_of-number.ensures ∙ ap (number_of place) count in
    let next : Some mount ≡ slice_get rest (length files) = c.in-Some.ensures ∙ (ap (slice_get table) number ∙ sym (slice_get-remove table place (length files))) in
    let mount_is : file.mount ≡ mount = ap (λ (f : MountedFile). f.mount) c.weigh-sum.ensures.file ∙ c.in_ok-file.ensures.mount in
    let short : HasShortTexts file.state = subst (λ (f : MountedFile). HasShortTexts f.state) (sym c.weigh-sum.ensures.file) (weighed_file-short c.self.inside.sum c.in_ok-file.file c.in_ok-file.ensures.short) in
    let items : c.push.new.self.items ≡ files ++ file ∷ [] = c.in_ok-push.ensures.items in
    record {
      made = inv.made;
      ascending = inv.ascending;
      place = inv.place;
      few = subst (λ (all : List MountedFile). length all ≤ length rest) (sym items) (few-next rest files file (length files) mount refl next);
      table = subst (λ (all : List MountedFile). over (λ f. f.mount) all ≡ take (length all) rest) (sym items) (mounts-next rest files file (length files) mount refl mount_is next inv.table);
      own_short = inv.own_short;
      short = subst (λ (all : List MountedFile). HaveShortTexts all) (sym items) (short-next files file inv.short short);
      sum = omega (arith, c.weigh-sum.ensures.sum, inv.sum, sum_by_push added_weight files file, ap (sum_by added_weight) items);
      limit = c.weigh-sum.ensures.limit;
    }

pub returns-clause-step : goal.returns-clause-step
returns-clause-step g c = λ bytes_of mount begins there is_whole.
    let Reads = g.F.Formats.reads in
    let IsBad = g.F.Formats.is_bad_at in
    let table = c.self.inside.table in
    let place = c.self.inside.place in
    let own = c.self.inside.own in
    let files = c.self.inside.files.items in
    let sum = c.self.inside.sum in
    let file = c.in_ok-file.file in
    let next = c.in-Some.mount.now in
    let count : c.len.result ≡ length files = omega (arith, c.len.ensures, c.self.inside.files.ok.0) in
    let number : c.number_of-number.result ≡ number_of place (length files) = c.number_of-number.ensures ∙ ap (number_of place) count in
    let next_is : Some next ≡ slice_get (remove table place) (length files) = c.in-Some.ensures ∙ (ap (slice_get table) number ∙ sym (slice_get-remove table place (length files))) in
    let begun : Begun = record { table = table; place = place; own = own; files = files } in
    let before = subst (λ (b : Begun). Begins Reads IsBad bytes_of b) (sym c.self.view_is) begins in
    let mount_there = subst (λ (b : Begun). slice_get (others b) (length b.files) ≡ Some mount) (sym c.self.view_is) there in
    let same : mount ≡ next = same_Some mount next (sym mount_there ∙ sym next_is) in
    let state = c.in_ok-file.ensures.state (bytes_of next.file) (subst (λ (m : Mount). IsWhole (bytes_of m.file) c.args.read.now) same is_whole) in
    let here = subst (λ (ps : List Name). IsState Reads IsBad ps c.number_of-number.result next (bytes_of next.file) file.state) c.points.ensures.points state in
    let numbered = subst (λ (n : ℕ). IsState Reads IsBad (over (λ m. m.at) table) n next (bytes_of next.file) file.state) number here in
    let of_file = subst (λ (m : Mount). IsState Reads IsBad (over (λ m. m.at) table) (number_of place (length files)) m (bytes_of m.file) file.state) (sym c.in_ok-file.ensures.mount) numbered in
    subst (λ (all : List MountedFile). Begins Reads IsBad bytes_of (record { table = table; place = place; own = own; files = all })) (sym {A = List MountedFile} (c.in_ok-push.ensures.items ∙ ap (λ (f : MountedFile). files ++ f ∷ []) c.weigh-sum.ensures.file))
    (begins-more Reads IsBad bytes_of begun sum file before c.self.invariant.sum of_file)

pub returns-clause-storable : goal.returns-clause-storable
returns-clause-storable g c = λ so_far.
    let IsStorable = g.F.Formats.is_storable in
    let table = c.self.inside.table in
    let place = c.self.inside.place in
    let own = c.self.inside.own in
    let files = c.self.inside.files.items in
    let sum = c.self.inside.sum in
    let file = c.in_ok-file.file in
    let next = c.in-Some.mount.now in
    let count : c.len.result ≡ length files = omega (arith, c.len.ensures, c.self.inside.files.ok.0) in
    let number : c.number_of-number.result ≡ number_of place (length files) = c.number_of-number.ensures ∙ ap (number_of place) count in
    let begun : Begun = record { table = table; place = place; own = own; files = files } in
    let before = subst (λ (b : Begun). CanBeWrittenSoFar IsStorable b) (sym c.self.view_is) so_far in
    let here = subst (λ (ps : List Name). CanBeWritten IsStorable ps c.number_of-number.result next file.state) c.points.ensures.points c.in_ok-file.ensures.storable in
    let numbered = subst (λ (n : ℕ). CanBeWritten IsStorable (over (λ m. m.at) table) n next file.state) number here in
    let of_file = subst (λ (m : Mount). CanBeWritten IsStorable (over (λ m. m.at) table) (number_of place (length files)) m file.state) (sym c.in_ok-file.ensures.mount) numbered in
    subst (λ (all : List MountedFile). CanBeWrittenSoFar IsStorable (record { table = table; place = place; own = own; files = all })) (sym {A = List MountedFile} (c.in_ok-push.ensures.items ∙ ap (λ (f : MountedFile). files ++ f ∷ []) c.weigh-sum.ensures.file))
    (writable-more IsStorable begun sum file before of_file)
