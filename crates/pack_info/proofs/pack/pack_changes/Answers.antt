use Rattle.pack_info.proofs.pack.pack_changes.Goals as goal

pub write_rows-requires : goal.write_rows-requires
write_rows-requires c = c.requires
